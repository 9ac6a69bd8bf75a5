-- Document 01, "The run player": the lines that it prints.
use Rattle.std.specs.Prelude.{List, [], ◌∷◌, ◌++◌, ℕ}
use Rattle.base.specs.BigEndian.{to_bytes}
use Rattle.base.specs.Outcome.{Outcome, accepted, refused}
use Rattle.base.specs.declared.replica_set.ReplicaSet.{ReplicaSet}
use Rattle.text.specs.Decimal.{decimal}
use Rattle.text.specs.Hex.{hex}
use Rattle.text.specs.Timestamp.{stamp}
use Rattle.play.specs.declared.output.Said.{Said}
use Rattle.play.specs.declared.output.Said.TheVariants.{Sent, Taken, Done, Ended, Unread}

-- `holders 4 desks 4`
unfoldable pub header : List ℕ
header = 104 ∷ 111 ∷ 108 ∷ 100 ∷ 101 ∷ 114 ∷ 115 ∷ 32 ∷ 52 ∷ 32 ∷ 100 ∷ 101 ∷ 115 ∷ 107 ∷ 115 ∷ 32 ∷ 52 ∷ 10 ∷ []

-- Document 02, #102: the signers "as four capital hex digits after the card"
unfoldable pub behind_card : ReplicaSet → List ℕ
behind_card signers = (32 ∷ []) ++ hex (to_bytes 2 signers.0)

-- "`sent M`, `taken` (counted), `done STAMP HEX`, `ended` or `refused N`; a line of another form, or with an unsent M, `unread`"
unfoldable pub said : Outcome Said → List ℕ → List ℕ
said (accepted (Sent m)) card = (115 ∷ 101 ∷ 110 ∷ 116 ∷ 32 ∷ []) ++ decimal m
said (accepted Taken) card = 116 ∷ 97 ∷ 107 ∷ 101 ∷ 110 ∷ []
said (accepted (Done t signers)) card = (100 ∷ 111 ∷ 110 ∷ 101 ∷ 32 ∷ []) ++ stamp t ++ (32 ∷ []) ++ hex card ++ behind_card signers
said (accepted Ended) card = 101 ∷ 110 ∷ 100 ∷ 101 ∷ 100 ∷ []
said (refused number) card = (114 ∷ 101 ∷ 102 ∷ 117 ∷ 115 ∷ 101 ∷ 100 ∷ 32 ∷ []) ++ decimal number
said (accepted Unread) card = 117 ∷ 110 ∷ 114 ∷ 101 ∷ 97 ∷ 100 ∷ []

-- "each line prints its number and" what is said of it
unfoldable pub line : ℕ → Outcome Said → List ℕ → List ℕ
line number what card = decimal number ++ (32 ∷ []) ++ said what card ++ (10 ∷ [])
