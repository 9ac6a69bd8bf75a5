-- A card that a client is done with has at most 17 bytes. Assumes nothing.
use mathlib.Core.Bool.{Bool, true, false, cond}
use mathlib.Core.List.{List}
use mathlib.Core.Option.{Option}
use Rattle.std.specs.declared.option.Option.{Option as CodeOption}
use Rattle.std.specs.declared.option.Option.TheVariants.{Some, None}
use Prim.Native.Nat.{ℕ, ◌≤◌}
use lib.ListN.{length}
use Rattle.base.specs.ClientSet.{nobody}
use Rattle.base.specs.Outcome.{Outcome, accepted, refused, guard, ◌>>=◌}
use Rattle.base.specs.ReplicaSet.{with, is_quorum}
use Rattle.base.specs.Timestamp.{successor}
use Rattle.base.specs.declared.party.ClientId.{ClientId}
use Rattle.base.specs.declared.party.RegisterId.{RegisterId}
use Rattle.base.specs.declared.party.ReplicaId.{ReplicaId}
use Rattle.base.specs.declared.replica_set.ReplicaSet.{ReplicaSet}
use Rattle.base.specs.declared.timestamp.Timestamp.{Timestamp}
use Rattle.wire.specs.Acceptance.{admitted}
use Rattle.wire.specs.Layout.{signature}
use Rattle.wire.specs.Message.{Message, READ-STAMP, PREPARE, WRITE, READ, STAMP, PREPARED, WRITTEN, CARD}
use Rattle.wire.specs.Proof.{PreparedProof}
use Rattle.wire.specs.declared.message.Party.TheVariants.{Client as AtClient}
use Rattle.protocol.specs.Client.{send, waits, done, ended, Turn, current_card, best_of, keep_better, showed_by, keep_better_card, begin_write, begin_read, to_prepare, after_stamp, on_stamp, after_prepared, on_prepared, after_written, after_write_back, on_written, after_card, count_card, on_card, on_reply, towards, client_step}
use Rattle.protocol.specs.RegisterReplica.{with_output}
use Rattle.protocol.specs.Viewer.{after_view, on_viewer_reply, viewer_step}
use Rattle.protocol.specs.declared.client.Client.{Client}
use Rattle.protocol.specs.declared.client.Phase.{Phase}
use Rattle.protocol.specs.declared.client.Phase.TheVariants.{Idle, Stamps, Prepareds, Writtens, Cards, WriteBack}
use Rattle.protocol.proofs.ArrayLaws.{card_in_short}
use Rattle.client.specs.Roles.{after_cards, role_step}
use Rattle.client.specs.declared.role.Role.{Role}
use Rattle.client.specs.declared.role.Role.TheVariants.{Ordinary, Viewing}

pub data Short : Outcome Turn → Type 0 where
  refuses : {number : ℕ} → Short (refused number)
  sends : {message : Message} {next : Client} → Short (accepted (record { answer = send message; next = next }))
  waiting : {next : Client} → Short (accepted (record { answer = waits; next = next }))
  finishes : {timestamp : Timestamp} {card : List ℕ} {signers : ReplicaSet} {next : Client} → length card ≤ 17 → Short (accepted (record { answer = done timestamp card signers; next = next }))
  ends : {next : Client} → Short (accepted (record { answer = ended; next = next }))

short_guard : (number : ℕ) (test : Bool) (next : Outcome Turn) → Short next → Short (guard number test next)
unfolding guard
short_guard number true next h = h
short_guard number false next h = refuses

short_cond : (test : Bool) (x y : Outcome Turn) → Short x → Short y → Short (cond test x y)
short_cond true x y hx hy = hx
short_cond false x y hx hy = hy

short_card : (client : Client) → length (current_card client) ≤ 17
short_card client = card_in_short client.card client.card_length

short_stamps : (nonce : ℕ) (best : Timestamp) (held : ReplicaSet) (client : Client) → Short (after_stamp nonce best held client)
unfolding after_stamp
short_stamps nonce best held client = short_cond (is_quorum client.f held) _ _ (go (successor best client.id)) waiting
  where
    go : (next : CodeOption Timestamp) → Short (to_prepare client best next)
    go None = ends
    go (Some next) = sends

short_stamp : (client : Client) (sender : ReplicaId) (nonce : ℕ) (proof : Option PreparedProof) (addressed : ClientId) (phase : Phase) → Short (on_stamp client sender nonce proof addressed phase)
unfolding on_stamp
short_stamp client sender nonce proof addressed Idle = refuses
short_stamp client sender nonce proof addressed (Stamps asked best held) = short_guard 18 _ _ (short_stamps asked (best_of best proof) (with held sender) (keep_better best proof client))
short_stamp client sender nonce proof addressed (Prepareds asked held) = refuses
short_stamp client sender nonce proof addressed (Writtens asked held) = refuses
short_stamp client sender nonce proof addressed (Cards asked best held showed) = refuses
short_stamp client sender nonce proof addressed (WriteBack asked held) = refuses

short_prepared : (client : Client) (sender : ReplicaId) (timestamp : ℕ) (digest signature : List ℕ) (phase : Phase) → Short (on_prepared client sender timestamp digest signature phase)
unfolding on_prepared after_prepared
short_prepared client sender timestamp digest signature Idle = refuses
short_prepared client sender timestamp digest signature (Stamps asked best held) = refuses
short_prepared client sender timestamp digest signature (Prepareds asked held) = short_guard 18 _ _ (short_cond (is_quorum client.f (with held sender)) _ _ sends waiting)
short_prepared client sender timestamp digest signature (Writtens asked held) = refuses
short_prepared client sender timestamp digest signature (Cards asked best held showed) = refuses
short_prepared client sender timestamp digest signature (WriteBack asked held) = refuses

short_written : (client : Client) (sender : ReplicaId) (timestamp : ℕ) (signature : List ℕ) (phase : Phase) → Short (on_written client sender timestamp signature phase)
unfolding on_written after_written after_write_back
short_written client sender timestamp signature Idle = refuses
short_written client sender timestamp signature (Stamps asked best held) = refuses
short_written client sender timestamp signature (Prepareds asked held) = refuses
short_written client sender timestamp signature (Writtens asked held) = short_guard 18 _ _ (short_cond (is_quorum client.f (with held sender)) _ _ (finishes (short_card client)) waiting)
short_written client sender timestamp signature (Cards asked best held showed) = refuses
short_written client sender timestamp signature (WriteBack asked held) = short_guard 18 _ _ (short_cond (is_quorum client.f (with held sender)) _ _ (finishes (short_card client)) waiting)

short_enough : (role : Role) (best : Timestamp) (showed : ReplicaSet) (client : Client) → Short (after_cards role best showed client)
unfolding after_card after_view
short_enough Ordinary best showed client = short_cond (is_quorum client.f showed) _ _ (finishes (short_card client)) sends
short_enough Viewing best showed client = finishes (short_card client)

short_cards : (role : Role) (nonce : ℕ) (best : Timestamp) (held showed : ReplicaSet) (client : Client) → Short (count_card (after_cards role) nonce best held showed client)
unfolding count_card
short_cards role nonce best held showed client = short_cond (is_quorum client.f held) _ _ (short_enough role best showed client) waiting

short_on_card : (role : Role) (client : Client) (sender : ReplicaId) (nonce : ℕ) (card : List ℕ) (proof : Option PreparedProof) (addressed : ClientId) (phase : Phase)
    → Short (on_card (after_cards role) client sender nonce card proof addressed phase)
unfolding on_card
short_on_card role client sender nonce card proof addressed Idle = refuses
short_on_card role client sender nonce card proof addressed (Stamps asked best held) = refuses
short_on_card role client sender nonce card proof addressed (Prepareds asked held) = refuses
short_on_card role client sender nonce card proof addressed (Writtens asked held) = refuses
short_on_card role client sender nonce card proof addressed (Cards asked best held showed) =
    short_guard 18 _ _ (short_cards role asked (best_of best proof) (with held sender) (showed_by best proof sender showed) (keep_better_card best card proof client))
short_on_card role client sender nonce card proof addressed (WriteBack asked held) = refuses

module _ (client : Client) where
  short_reply : (signature : List ℕ) (message : Message) → Short (on_reply client signature message)
  unfolding on_reply
  short_reply signature (STAMP sender nonce proof addressed) = short_stamp client sender nonce proof addressed client.phase
  short_reply signature (PREPARED sender timestamp digest) = short_prepared client sender timestamp digest signature client.phase
  short_reply signature (WRITTEN sender timestamp) = short_written client sender timestamp signature client.phase
  short_reply signature (CARD sender nonce card proof addressed) = short_guard 14 _ _ (short_on_card Ordinary client sender nonce card proof addressed client.phase)
  short_reply signature (READ-STAMP sender nonce) = refuses
  short_reply signature (PREPARE sender timestamp digest proof last) = refuses
  short_reply signature (WRITE sender card proof) = refuses
  short_reply signature (READ sender nonce) = refuses

  short_view : (message : Message) → Short (on_viewer_reply client message)
  unfolding on_viewer_reply
  short_view (CARD sender nonce card proof addressed) = short_guard 14 _ _ (short_on_card Viewing client sender nonce card proof addressed client.phase)
  short_view (STAMP sender nonce proof addressed) = refuses
  short_view (PREPARED sender timestamp digest) = refuses
  short_view (WRITTEN sender timestamp) = refuses
  short_view (READ-STAMP sender nonce) = refuses
  short_view (PREPARE sender timestamp digest proof last) = refuses
  short_view (WRITE sender card proof) = refuses
  short_view (READ sender nonce) = refuses

short_next : (next : RegisterId × Message → Outcome Turn) → ((sent : RegisterId × Message) → Short (next sent)) → (m : Outcome (RegisterId × Message)) → Short (m >>= next)
short_next next h (accepted sent) = h sent
short_next next h (refused number) = refuses

module _ (client : Client) (old : List ℕ) where
  pub short_write : (register : RegisterId) (card : List ℕ) → Short (with_output old (begin_write client register card))
  unfolding begin_write
  short_write register card = short_guard 1 _ _ (short_guard 20 _ _ (short_guard 14 _ _ (short_guard 17 _ _ sends)))

  pub short_read : (register : RegisterId) → Short (with_output old (begin_read client register))
  unfolding begin_read
  short_read register = short_guard 1 _ _ (short_guard 20 _ _ (short_guard 17 _ _ sends))

  pub short_step : (role : Role) (bytes verdicts : List ℕ) → Short (with_output old (role_step role client bytes verdicts))
  unfolding client_step viewer_step
  short_step Ordinary bytes verdicts =
      short_guard 1 _ _ (short_next _ (λ sent. short_reply (towards sent.0 client) (signature bytes) sent.1) (admitted AtClient client.f nobody bytes verdicts))
  short_step Viewing bytes verdicts = short_guard 1 _ _ (short_next _ (λ sent. short_view (towards sent.0 client) sent.1) (admitted AtClient client.f nobody bytes verdicts))
