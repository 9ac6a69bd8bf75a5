-- `client::signatures::gather` meets its contract: the entries of the first i replicas are kept.
use Rattle.std.proofs.Common.{take}
use Rattle.protocol.specs.Client.{gathered}
use Rattle.client.specs.Arrays.{Keeps}
use Rattle.client.proofs.signatures.gather.Given as goal

abbrev pub invariant-loop-i : goal.invariant-loop-i
invariant-loop-i l = Keeps (take 11 (gathered l.i l.counted l.signatures)) l.built
