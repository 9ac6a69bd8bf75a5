-- Document 01, "Messages": what a writer leaves in the borrowed output ("lent output"), and what it is handed.
use Rattle.std.specs.Prelude.{◌≡◌, ℕ, min, Bool, cond, List, ◌++◌, length, take, drop, replicate, ◌==◌, nat_le}
use Rattle.std.proofs.Math.Option.{Option, none, some}
use Rattle.base.specs.Outcome.{Outcome, accepted, guard}
use Rattle.base.specs.Timestamp.{number}
use Rattle.base.specs.declared.party.RegisterId.{RegisterId}
use Rattle.base.specs.declared.timestamp.Timestamp.{Timestamp}
use Rattle.wire.specs.Message.{Message, encode, longest}
use Rattle.wire.specs.Proof.{Entry, Proof, read_entries}
use Rattle.wire.specs.declared.writer.KeptProof.{KeptProof}

-- "A party sends its own seal as zeros for the box to fill."
unfoldable pub blank_signature : List ℕ
blank_signature = replicate 64 0

abbrev pub unsigned : RegisterId → Message → List ℕ
unsigned register message = encode register message blank_signature

-- 1: "The output is shorter than" the longest message.
abbrev pub roomy : List ℕ → Bool
roomy output = nat_le longest (length output)

-- "the lent output holds the message in front and its old bytes behind"
abbrev pub in_front : List ℕ → List ℕ → List ℕ
in_front bytes old = bytes ++ drop (length bytes) old

-- The output was `old`; the bytes were to be written; this is the answer, the bytes' length or the refusal, and the output is now `new`.
pub record Wrote (old bytes : List ℕ) (answer : Outcome ℕ) (new : List ℕ) : Type 0 where
  pub answered : answer ≡ guard 1 (roomy old) (accepted (length bytes))
  pub holds : new ≡ cond (roomy old) (in_front bytes old) old

-- A card as a party keeps it: its length, and room for 17 bytes. A length above 17 counts as 17.
abbrev pub kept_card : ℕ → List ℕ → List ℕ
kept_card size card = take (min size 17) card

-- Proofs as a party keeps them: a timestamp, a digest of d bytes, how many entries, and room for 11, which are all that q can be. A number
-- above 11 counts as 11.
abbrev pub kept_entries : ℕ → List ℕ → List Entry
kept_entries count entries = read_entries (min count 11) entries

abbrev pub kept_proof : {d : ℕ} → KeptProof d → Proof d
kept_proof kept = record { timestamp = number kept.timestamp; digest = kept.digest.now; entries = kept_entries kept.entry_count kept.entries.now }

-- "A missing prepared proof means stamp 0.0."
abbrev pub missing : Timestamp → Bool
missing timestamp = number timestamp == 0

abbrev pub unless : {A : Type 0} → Bool → A → Option A
unless absent proof = cond absent none (some proof)
