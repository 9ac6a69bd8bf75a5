-- Document 01, "Messages": the numbers of the kinds.
use Rattle.std.specs.Prelude.{ℕ, [], ◌∷◌, Option, Some, None, find, ◌==◌}
use Rattle.wire.specs.declared.message.Kind.{Kind}
use Rattle.wire.specs.declared.message.Kind.TheVariants.{ReadStamp, Prepare, Write, Read, Stamp, Prepared, Written, Card}

abbrev pub kind_number : Kind → ℕ
kind_number ReadStamp = 1
kind_number Prepare = 2
kind_number Write = 3
kind_number Read = 4
kind_number Stamp = 5
kind_number Prepared = 6
kind_number Written = 7
kind_number Card = 8

-- The kind with a number.
abbrev pub kind_of_number : ℕ → Option Kind
kind_of_number number = find (λ kind. number == kind_number kind) (ReadStamp ∷ Prepare ∷ Write ∷ Read ∷ Stamp ∷ Prepared ∷ Written ∷ Card ∷ [])

-- The kind that bytes are read with, by their number. A number that no kind has is refused (5), whatever stands here for it: CARD, the last.
abbrev pub kind_there : Option Kind → Kind
kind_there (Some kind) = kind
kind_there None = Card
