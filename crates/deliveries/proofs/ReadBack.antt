-- The player's own grammar reads a run's text, and all that is printed, as what was meant. Assumes nothing.
use Rattle.std.proofs.Common.{Option, Some, option_map}
use mathlib.Core.Path.{◌≡◌, refl, sym, ap, ap₂, ◌∙◌}
use mathlib.Core.List.Memᴰ.{head as here}
use mathlib.Core.List.Memᴰ.{tail as there}
use mathlib.Core.List.{List, [], ◌∷◌, ◌++◌, map, flat_map, append_assoc, append-nil, Memᴰ as In}
use Prim.Native.Nat.{ℕ, zero, suc, ◌+◌, ◌-◌, ◌≤◌}
use native.Mathlib.Omega.{arith}
use borrow.Author.Tests.{ne_eqb}
use lib.ListN.{get_or}
use Rattle.base.specs.Counting.{replica}
use Rattle.base.specs.Range.{within}
use Rattle.base.proofs.Apart.{apart}
use Rattle.base.proofs.Range.{inside}
use Rattle.text.specs.Line.{lines}
use Rattle.text.specs.Decimal.{with_digits}
use Rattle.text.specs.Hex.{hex_value, pair_value, hex_pairs}
use Rattle.protocol.specs.Client.{begin_write_call}
use Rattle.protocol.specs.declared.client.Client.{Client}
use Rattle.play.specs.Calls.{the_register, free, client_does}
use Rattle.play.specs.Grammar.{is_hex_digit, is_hex_card, message_number, asked, short, command}
use Rattle.play.specs.declared.calls.Call.TheVariants.{Write as BeginWrite}
use Rattle.play.specs.declared.grammar.Command.{Command}
use Rattle.play.specs.declared.grammar.Command.TheVariants.{ToReplica}
use Rattle.play.specs.declared.log.Log.{Log}
use Rattle.deliveries.specs.ShortRuns.{Delivery, Possible, Legal, runs, opening, delivery_line, run_text, text_of, printed}
use Rattle.deliveries.specs.ReadBack.{asks, commands}
use Rattle.deliveries.proofs.Others.{same_delivery}
use Rattle.deliveries.proofs.Runs.{sound}
use Rattle.deliveries.proofs.Texts.{six}

-- Whatever stands behind it, a text is read as these commands.
record Reads (text : List ℕ) (these : List (Option Command)) : Type 0 where
  before : (behind : List ℕ) → map command (lines (text ++ behind)) ≡ these ++ map command (lines behind)

reads_both : {a b : List ℕ} {x y : List (Option Command)} → Reads a x → Reads b y → Reads (a ++ b) (x ++ y)
reads_both {a} {b} {x} {y} first second =
    record {
      before = λ behind. ap (λ (text : List ℕ). map command (lines text)) (append_assoc a b behind)
          ∙ (first.before (b ++ behind)
          ∙ (ap (λ (later : List (Option Command)). x ++ later) (second.before behind)
          ∙ sym (append_assoc x y (map command (lines behind)))));
    }

reads_whole : {text : List ℕ} {these : List (Option Command)} → Reads text these → map command (lines text) ≡ these
unfolding lines
reads_whole {text} {these} reads = ap (λ (l : List ℕ). map command (lines l)) (sym (append-nil text)) ∙ (reads.before [] ∙ append-nil these)

number_of : (m : ℕ) → 1 ≤ m → m ≤ 2 → message_number ((48 + m) ∷ []) ≡ Some m
unfolding message_number with_digits within
number_of zero from to = absurd (omega arith)
number_of (suc zero) from to = refl
number_of (suc (suc zero)) from to = refl
number_of (suc (suc (suc m))) from to = absurd (omega arith)

module _ (d : Delivery) (p : Possible d) where
  abbrev bytes : List ℕ
  bytes = 104 ∷ 32 ∷ (48 + d.replica.0) ∷ 32 ∷ (48 + d.message) ∷ []

  a_line : (behind : List ℕ) → lines (bytes ++ 10 ∷ behind) ≡ bytes ∷ lines behind
  unfolding lines
  a_line behind = rw (ne_eqb (48 + d.replica.0) 10 (λ e. omega arith), ne_eqb (48 + d.message) 10 (λ e. omega arith))

  its_number : message_number ((48 + d.message) ∷ []) ≡ Some d.message
  its_number = number_of d.message p.message_from p.message_to

  its_command : command bytes ≡ asks d
  unfolding command asked
  its_command =
      let party : 48 + d.replica.0 - 48 ≡ d.replica.0 = omega arith in
      rw (inside 49 52 (48 + d.replica.0) (omega arith) (omega arith)) (ap₂ (λ (r : ℕ) (n : Option ℕ). option_map (ToReplica (replica r)) n) party its_number)

  line_read : Reads (delivery_line d) (asks d ∷ [])
  line_read =
      record {
        before = λ behind. ap (λ (l : List ℕ). map command (lines (l ++ behind))) (six d p)
            ∙ (ap (map command) (a_line behind) ∙ ap (λ (c : Option Command). c ∷ map command (lines behind)) its_command);
      }

deliveries_read : (run : List Delivery) → ((d : Delivery) → In d run → Possible d) → Reads (flat_map delivery_line run) (map asks run)
unfolding flat_map
deliveries_read [] possible = record { before = λ behind. refl }
deliveries_read (d ∷ run) possible = reads_both (line_read d (possible d (here refl))) (deliveries_read run (λ e m. possible e (there m)))

opening_read : Reads opening (commands [])
unfolding opening lines command asked short is_hex_card is_hex_digit within
opening_read = record { before = λ behind. refl }

run_read : (k : ℕ) (run : List Delivery) → Legal k run → Reads (run_text run) (commands run)
unfolding run_text
run_read k run legal = reads_both opening_read (deliveries_read run legal.possible)

runs_read : (k : ℕ) (l : List (List Delivery)) → ((run : List Delivery) → In run l → Legal k run) → Reads (flat_map run_text l) (flat_map commands l)
unfolding flat_map
runs_read k [] legal = record { before = λ behind. refl }
runs_read k (run ∷ l) legal = reads_both (run_read k run (legal run (here refl))) (runs_read k l (λ r m. legal r (there m)))

-- ---- The claims

pub read_back : (k : ℕ) (run : List Delivery) → Legal k run → map command (lines (run_text run)) ≡ commands run
read_back k run legal = reads_whole (run_read k run legal)

same_deliveries : (a b : List Delivery) → map asks a ≡ map asks b → a ≡ b
same_deliveries [] [] same = refl
same_deliveries [] (e ∷ b) same = apart (cc)
same_deliveries (d ∷ a) [] same = apart (cc)
same_deliveries (d ∷ a) (e ∷ b) same =
    let first : d ≡ e = same_delivery d e (cc) (cc) in
    ap₂ (λ (x : Delivery) (run : List Delivery). x ∷ run) first (same_deliveries a b (cc))

-- Different runs have different texts.
pub one_text : (j k : ℕ) (a b : List Delivery) → Legal j a → Legal k b → run_text a ≡ run_text b → a ≡ b
one_text j k a b la lb same =
    let read : commands a ≡ commands b = sym (read_back j a la) ∙ (ap (λ (text : List ℕ). map command (lines text)) same ∙ read_back k b lb) in
    same_deliveries a b (cc)

-- The write begins with the card `00 00`, whoever begins it and whatever was sent before.
pub card_read_lem : (run : List Delivery) (client : Client) (log : Log) (store : List ℕ)
    → client_does client log store (get_or (lines (run_text run)) 0 []) BeginWrite ≡ begin_write_call client the_register (0 ∷ 0 ∷ []) (free log store)
unfolding run_text opening lines client_does hex_pairs pair_value hex_value within
card_read_lem run client log store = refl

-- All that is printed: the commands of one run behind those of the other.
pub printed_read : map command (lines printed) ≡ flat_map commands (runs 1) ++ flat_map commands (runs 2) ++ flat_map commands (runs 3) ++ flat_map commands (runs 4)
unfolding printed text_of
printed_read =
    reads_whole (reads_both (reads_both (reads_both (of 1) (of 2)) (of 3)) (of 4))
  where
    of : (k : ℕ) → Reads (flat_map run_text (runs k)) (flat_map commands (runs k))
    of k = runs_read k (runs k) (sound k)
