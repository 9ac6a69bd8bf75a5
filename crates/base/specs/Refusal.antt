-- Document 01, "Turned down, in checking order": each refusal has a number; 19 on are document 02's.
use Rattle.std.specs.Prelude.{ℕ}
use Rattle.std.specs.declared.result.Result.{Result}
use Rattle.std.specs.declared.result.Result.TheVariants.{Ok, Err}
use Rattle.base.specs.Outcome.{Outcome, accepted, refused}
use Rattle.base.specs.declared.refusal.Refusal.{Refusal}
use Rattle.base.specs.declared.refusal.Refusal.TheVariants.{OutputTooShort, MessageLength, BitMap, FieldLengths, Kind, Sender, Verdicts, NotGenuine, NotAQuorum, EntryNotGenuine, NotIssued, NotSuccessor, BadCard, NotTaken, SetUp, Busy, NotAwaited, NotForViewers, Register, Order, OrderNotGenuine, Withdrawn}

abbrev pub number_of : Refusal → ℕ
number_of OutputTooShort = 1
number_of MessageLength = 2
number_of BitMap = 3
number_of FieldLengths = 4
number_of Kind = 5
number_of Sender = 6
number_of Verdicts = 7
number_of NotGenuine = 8
number_of NotAQuorum = 9
number_of EntryNotGenuine = 10
number_of NotIssued = 11
number_of NotSuccessor = 13
number_of BadCard = 14
number_of NotTaken = 15
number_of SetUp = 16
number_of Busy = 17
number_of NotAwaited = 18
number_of NotForViewers = 19
number_of Register = 20
number_of Order = 21
number_of OrderNotGenuine = 22
number_of Withdrawn = 23

-- What a result of the code stands for: a value, or the refusal by its number.
abbrev pub outcome : {A : Type 0} → Result A Refusal → Outcome A
outcome (Ok value) = accepted value
outcome (Err refusal) = refused (number_of refusal)
