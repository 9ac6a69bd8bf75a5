-- What a client makes of a message that passed 2 to 11, and what the code knows of such a message.
use Rattle.std.specs.Prelude.{◌≡◌, List, [], ◌∷◌, ℕ}
use Rattle.std.proofs.Props.{props}
use Rattle.std.specs.Coded.{Unit-prop}
use Rattle.base.specs.ClientSet.{nobody}
use Rattle.base.specs.Outcome.{Outcome, accepted, ◌>>=◌}
use Rattle.base.specs.declared.replica_set.ReplicaSet.{ReplicaSet}
use Rattle.wire.specs.Acceptance.{acceptance}
use Rattle.wire.specs.Decode.{message_in, register_in}
use Rattle.wire.specs.Layout.{signature}
use Rattle.wire.specs.Parts.{WholeIfThere}
use Rattle.wire.specs.declared.message.Fields.{Fields}
use Rattle.wire.specs.declared.message.Party.TheVariants.{Client as AtClient}
use Rattle.protocol.specs.Client.{Turn, on_reply, towards}
use Rattle.protocol.specs.Viewer.{on_viewer_reply}
use Rattle.protocol.specs.declared.client.Client.{Client}
use Rattle.client.specs.declared.role.Role.{Role}
use Rattle.client.specs.declared.role.Role.TheVariants.{Ordinary, Viewing}

-- What follows for the message that the bytes are, and its register.
unfoldable pub after_tests : Role → Client → List ℕ → Outcome Turn
after_tests Ordinary client bytes = message_in AtClient bytes >>= on_reply (towards (register_in bytes) client) (signature bytes)
after_tests Viewing client bytes = message_in AtClient bytes >>= on_viewer_reply (towards (register_in bytes) client)

-- A message that tests 2 to 11 let through at a client, with some f and some verdicts: its fields, and who signed its prepared proof.
pub record Passing (bytes : List ℕ) (fields : Fields) (signers : ReplicaSet) : Type 0 where
  pub f : ℕ
  pub verdicts : List ℕ
  pub passes : acceptance AtClient f nobody bytes verdicts ≡ accepted (fields, signers)

-- That a proof is whole, if it is there, has at most one proof.
pub whole_prop : (proof : List ℕ) → IsProp (WholeIfThere proof)
whole_prop [] = Unit-prop
whole_prop (byte ∷ bytes) = hlevel props
