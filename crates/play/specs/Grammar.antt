-- Document 01, "The run player": what a line of the input asks for.
use Rattle.std.specs.Prelude.{Bool, ◌&&◌, ◌||◌, cond, Option, Some, None, option_map, List, ℕ, ◌-◌, ◌%◌, eqb, length, get_or, drop}
use Rattle.std.specs.List.{list_all}
use Rattle.base.specs.Range.{within}
use Rattle.text.specs.Decimal.{numeral, below}
use Rattle.play.specs.declared.grammar.Command.{Command}
use Rattle.play.specs.declared.grammar.Command.TheVariants.{Write, Read, ToReplica, ToClient}

-- "capital hex digits"
unfoldable pub is_hex_digit : ℕ → Bool
is_hex_digit byte = within 48 57 byte || within 65 70 byte

-- "HEX is 1 to 17 pairs of capital hex digits"
unfoldable pub is_hex_card : List ℕ → Bool
is_hex_card digits = within 2 34 (length digits) && (eqb (length digits % 2) 0 && list_all is_hex_digit digits)

-- "M has no leading zero": the number that the digits write. At most 100 messages are sent, so that none has a number above 999.
unfoldable pub message_number : List ℕ → Option ℕ
message_number digits = cond (eqb (get_or digits 0 0) 48) None (below 1_000 (numeral digits))

-- "`w D HEX` begins a write", "`h H M` delivers message M to holder H, `d D M` to desk D"
unfoldable pub asked : ℕ → ℕ → List ℕ → Option Command
asked letter party rest =
    cond (eqb letter 104) (option_map (ToReplica (record { 0 = party })) (message_number rest))
    (cond (eqb letter 100) (option_map (ToClient (record { 0 = party })) (message_number rest))
    (cond (eqb letter 119 && is_hex_card rest) (Some (Write (record { 0 = party }))) None))

-- "`r D` a read"
unfoldable pub short : ℕ → ℕ → List ℕ → Option Command
short letter party line = cond (eqb (length line) 3 && eqb letter 114) (Some (Read (record { 0 = party }))) None

-- "D and H are 1 to 4 [..] and one space parts them"; none for a line of another form
unfoldable pub command : List ℕ → Option Command
command line =
    let letter = get_or line 0 0 in
    let party = get_or line 2 0 in
    cond (eqb (get_or line 1 0) 32 && within 49 52 party)
    (cond (eqb (get_or line 3 0) 32) (asked letter (party - 48) (drop 4 line)) (short letter (party - 48) line))
    None
