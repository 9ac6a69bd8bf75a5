-- Document 01, "Parties and stamps": timestamps (stamps).
use Rattle.std.specs.Prelude.{◌≡◌, Bool, ◌&&◌, ◌||◌, cond, List, [], ◌∷◌, ◌++◌, ℕ, ◌+◌, ◌*◌, ◌/◌, ◌%◌, leb, ltb, eqb}
use Rattle.std.specs.declared.option.Option.{Option}
use Rattle.std.specs.declared.option.Option.TheVariants.{Some, None}
use Rattle.std.specs.Fmt.{decimal}
use Rattle.base.specs.Party.{is_writer}
use Rattle.base.specs.declared.party.ClientId.{ClientId}
use Rattle.base.specs.declared.timestamp.Timestamp.{Timestamp}

-- "A stamp is a count (4 bytes) and a desk (1 byte)": its five bytes as one number, by which timestamps are compared.
abbrev pub number : Timestamp → ℕ
number t = t.count * 256 + t.client.0

abbrev pub of_number : ℕ → Timestamp
of_number n = record { count = n / 256; client = record { 0 = n % 256 } }

-- The client of a timestamp's number.
abbrev pub client_of : ℕ → ClientId
client_of timestamp = (of_number timestamp).client

-- "Counts compare first, then desks."
abbrev pub is_before : Timestamp → Timestamp → Bool
is_before s t = ltb s.count t.count || (eqb s.count t.count && ltb s.client.0 t.client.0)

-- The answer to this question, which is the order of the numbers.
pub record Before (s t : Timestamp) (answer : Bool) : Type 0 where
  pub counts_first : answer ≡ is_before s t
  pub by_number : answer ≡ ltb (number s) (number t)

-- Whether two timestamps are one.
abbrev pub is_same : Timestamp → Timestamp → Bool
is_same s t = eqb (number s) (number t)

-- Its text, as "1.2": the count, a dot, the client.
abbrev pub shown : Timestamp → List ℕ
shown t = decimal t.count ++ (46 ∷ []) ++ decimal t.client.0

-- "0.0 is the starting stamp."
abbrev pub start : Timestamp
start = record { count = 0; client = record { 0 = 0 } }

-- "The successor of a stamp for desk d is (count + 1).d; count 4,294,967,295 has none."
abbrev pub successor : Timestamp → ClientId → Option Timestamp
successor t client = cond (eqb t.count 4_294_967_295) None (Some (record { count = t.count + 1; client = client }))

-- Refusal 11 of a timestamp: "A stamp present has count 0 or a desk outside 1 to 64."
abbrev pub is_issued : Timestamp → Bool
is_issued t = leb 1 t.count && is_writer t.client
