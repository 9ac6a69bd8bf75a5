-- A client takes replies for its operation's register alone. Assumes nothing.
use mathlib.Core.Path.{◌≡◌, refl, ap, subst}
use mathlib.Core.Bool.{Bool, true, false, cond}
use mathlib.Core.List.{List}
use Prim.Native.Nat.{ℕ}
use borrow.Author.Tests.{eqb-true}
use lib.Dec.{eqb}
use Rattle.base.specs.ClientSet.{nobody}
use Rattle.base.specs.Outcome.{accepted}
use Rattle.base.specs.declared.party.RegisterId.{RegisterId}
use Rattle.wire.specs.Layout.{signature}
use Rattle.wire.specs.Message.{Message, READ-STAMP, PREPARE, WRITE, READ, STAMP, PREPARED, WRITTEN, CARD}
use Rattle.wire.specs.declared.message.Party.TheVariants.{Client as AtClient}
use Rattle.wire.proofs.AdmittedMessage.{Admitted, admitted_then}
use Rattle.protocol.specs.Client.{Turn, with_phase, on_stamp, on_prepared, on_written, on_card, on_reply, towards, client_step}
use Rattle.protocol.specs.Viewer.{on_viewer_reply, viewer_step}
use Rattle.protocol.specs.declared.client.Client.{Client}
use Rattle.protocol.specs.declared.client.Phase.TheVariants.{Idle}
use Rattle.protocol.proofs.Accepts.{Accepts, by_refusal, by_guard}

abbrev Nothing : Turn → Type 0
Nothing turn = ⊥

module _ (client : Client) where
  -- An idle client awaits no reply.
  idle_takes_none : (own : List ℕ) (message : Message) → Accepts Nothing (on_reply (with_phase Idle client) own message)
  unfolding on_reply on_stamp on_prepared on_written on_card
  idle_takes_none own (STAMP sender nonce proof addressed) = by_refusal
  idle_takes_none own (PREPARED sender timestamp digest) = by_refusal
  idle_takes_none own (WRITTEN sender timestamp) = by_refusal
  idle_takes_none own (CARD sender nonce card proof addressed) = by_guard 14 (λ stands. by_refusal)
  idle_takes_none own (READ-STAMP sender nonce) = by_refusal
  idle_takes_none own (PREPARE sender timestamp digest proof last) = by_refusal
  idle_takes_none own (WRITE sender card proof) = by_refusal
  idle_takes_none own (READ sender nonce) = by_refusal

  idle_views_none : (message : Message) → Accepts Nothing (on_viewer_reply (with_phase Idle client) message)
  unfolding on_viewer_reply on_card
  idle_views_none (CARD sender nonce card proof addressed) = by_guard 14 (λ stands. by_refusal)
  idle_views_none (STAMP sender nonce proof addressed) = by_refusal
  idle_views_none (PREPARED sender timestamp digest) = by_refusal
  idle_views_none (WRITTEN sender timestamp) = by_refusal
  idle_views_none (READ-STAMP sender nonce) = by_refusal
  idle_views_none (PREPARE sender timestamp digest proof last) = by_refusal
  idle_views_none (WRITE sender card proof) = by_refusal
  idle_views_none (READ sender nonce) = by_refusal

  -- What is let through for a register is for the record's.
  awaited_for : (register : RegisterId) (Takes : Client → Type 0) → (Takes (with_phase Idle client) → ⊥) → Takes (towards register client) → (register ≡ client.register) × Takes client
  awaited_for register Takes none takes = go (eqb register.0 client.register.0) refl takes
    where
      go : (b : Bool) → eqb register.0 client.register.0 ≡ b → Takes (cond b client (with_phase Idle client)) → (register ≡ client.register) × Takes client
      go true e takes = (ap {B = RegisterId} (λ (n : ℕ). record { 0 = n }) (eqb-true register.0 client.register.0 e), takes)
      go false e takes = absurd (none takes)

  -- A message that a client takes was let through for its register, and taken in its phase.
  pub client_takes_lem : (bytes verdicts : List ℕ) (turn : Turn) → client_step client bytes verdicts ≡ accepted turn
      → (message : Message) × Admitted AtClient client.f nobody bytes verdicts client.register message × (on_reply client (signature bytes) message ≡ accepted turn)
  unfolding client_step
  client_takes_lem bytes verdicts turn e =
      let (register, message, passed, taken) = admitted_then AtClient client.f nobody bytes verdicts (λ sent. on_reply (towards sent.0 client) (signature bytes) sent.1) turn e in
      let (is, by) = awaited_for register (λ now. on_reply now (signature bytes) message ≡ accepted turn) ((idle_takes_none (signature bytes) message).holds turn) taken in
      (message, subst (λ (x : RegisterId). Admitted AtClient client.f nobody bytes verdicts x message) is passed, by)

  pub viewer_takes : (bytes verdicts : List ℕ) (turn : Turn) → viewer_step client bytes verdicts ≡ accepted turn
      → (message : Message) × Admitted AtClient client.f nobody bytes verdicts client.register message × (on_viewer_reply client message ≡ accepted turn)
  unfolding viewer_step
  viewer_takes bytes verdicts turn e =
      let (register, message, passed, taken) = admitted_then AtClient client.f nobody bytes verdicts (λ sent. on_viewer_reply (towards sent.0 client) sent.1) turn e in
      let (is, by) = awaited_for register (λ now. on_viewer_reply now message ≡ accepted turn) ((idle_views_none message).holds turn) taken in
      (message, subst (λ (x : RegisterId). Admitted AtClient client.f nobody bytes verdicts x message) is passed, by)
