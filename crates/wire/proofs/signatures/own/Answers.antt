-- `wire::signatures::own` meets its contract.
use Rattle.std.proofs.Common.{◌≡◌, ◌-◌, length, take, refl, ◌∙◌, arith, length-take-le}
use Rattle.base.proofs.Stored.{stored_fits}
use Rattle.wire.proofs.MessageSignatures.{answers}
use Rattle.wire.proofs.signatures.own.Goals as goal

pub returns : goal.returns
returns c =
    let bytes = c.args.bytes.now in
    let covers = take (length bytes - 64) bytes in
    let size : length covers ≡ length bytes - 64 = length-take-le (length bytes - 64) bytes (omega arith) in
    answers {most = length bytes} refl c.sender.ensures
    (record {
      behind = omega arith;
      short = omega arith;
      room = omega arith;
      holds = c.put.ensures ∙ rw c.front.ensures (stored_fits 0 covers c.args.out.now (omega arith));
    })
