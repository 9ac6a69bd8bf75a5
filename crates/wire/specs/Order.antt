-- Document 02, #105: a withdrawal order's bytes. "An order is a bit map (2 bytes) with just bits 0 and 1 set, the desk (1), an order number (4,
-- any value) and an LMS signature over those 7 bytes", which has 1,292.
use Rattle.std.specs.Prelude.{ℕ, Bool, ◌&&◌, List, [], ◌∷◌, length, take, drop, ◌==◌, slice_index}
use Rattle.base.specs.Party.{is_client}
use Rattle.base.specs.Same.{same}
use Rattle.base.specs.declared.party.ClientId.{ClientId}

-- The client that an order names.
abbrev pub client_named : List ℕ → ClientId
client_named order = record { 0 = slice_index order 2 }

-- The bytes that its signature covers, and the signature.
abbrev pub order_covered : List ℕ → List ℕ
order_covered order = take 7 order

abbrev pub order_signature : List ℕ → List ℕ
order_signature order = drop 7 order

-- 21: "an order's length, bits or desk (1 to 96) is wrong".
unfoldable pub is_order : List ℕ → Bool
is_order order = length order == 1299 && (same (take 2 order) (0x00 ∷ 0x03 ∷ []) && is_client (client_named order))
