-- What the signature of a message that came covers. Assumes nothing.
use mathlib.Core.Path.{◌≡◌, sym, ap, ◌∙◌}
use mathlib.Core.List.{List, ◌++◌}
use Prim.Native.Nat.{ℕ, ◌+◌, ◌-◌}
use native.Mathlib.Omega.{arith}
use lib.ListN.{length, take, length-append}
use lib.Seq.{take_at}
use Rattle.base.specs.BigEndian.{Bytes}
use Rattle.base.specs.Outcome.{accepted}
use Rattle.base.specs.declared.party.RegisterId.{RegisterId}
use Rattle.wire.specs.Decode.{for_register, decode}
use Rattle.wire.specs.Layout.{signature}
use Rattle.wire.specs.Message.{Message, body, encode}
use Rattle.wire.specs.declared.message.Party.{Party}
use Rattle.wire.proofs.OneForm.{encode_decode, signature_size}

-- What some bytes that are a message have in front of their signature.
pub covered : (party : Party) (bytes : List ℕ) (x : RegisterId) (m : Message) → Bytes bytes → decode party bytes ≡ accepted (for_register x m) → take (length bytes - 64) bytes ≡ body x m
unfolding encode
covered party bytes x m small e =
    let whole : body x m ++ signature bytes ≡ bytes = encode_decode party bytes x m e small in
    let size : length (body x m) + length (signature bytes) ≡ length bytes = sym (length-append (body x m) (signature bytes)) ∙ ap length whole in
    let signed = signature_size party bytes x m e in
    ap (take (length bytes - 64)) (sym whole) ∙ take_at (body x m) (signature bytes) (length bytes - 64) (omega arith)
