-- Timestamps as text.
use Rattle.std.specs.Prelude.{List, [], ◌∷◌, ◌++◌, ℕ}
use Rattle.base.specs.declared.timestamp.Timestamp.{Timestamp}
use Rattle.text.specs.Decimal.{decimal}

-- Document 01: "written count.desk"
unfoldable pub stamp : Timestamp → List ℕ
stamp t = decimal t.count ++ (46 ∷ []) ++ decimal t.client.0
