-- The arrays of a client's record, as its owner knows them. Assumes nothing.
use mathlib.Core.Path.{◌≡◌, refl}
use mathlib.Core.Bool.{true}
use mathlib.Core.List.{List, [], ◌∷◌}
use mathlib.Core.Option.{some}
use Prim.Native.Nat.{ℕ, ◌≤◌, ◌<◌}
use native.Mathlib.Omega.{arith}
use borrow.Author.Tests.{le-leb, ltb-true}
use lib.Dec.{ltb}
use lib.ListN.{length, length-take}
use Rattle.std.specs.declared.option.Option.TheVariants.{Some}
use Rattle.base.specs.Party.{replica_count}
use Rattle.base.specs.declared.replica_set.ReplicaSet.{ReplicaSet}
use Rattle.wire.specs.Parts.{prepared_part, prepared_timestamp}
use Rattle.wire.specs.Proof.{prepared_from}
use Rattle.wire.specs.Sha256.{sha256, digest_of, longest_input}
use Rattle.protocol.specs.Client.{built}
use Rattle.protocol.specs.Parts.{entries_kept}
use Rattle.protocol.specs.declared.client.Client.{Client}
use Rattle.client.specs.Arrays.{Keeps}
use Rattle.client.specs.declared.signatures.Built.{Built}
use Rattle.client.proofs.Gathering.{kept, built_sized}

pub short_digest : (message : List ℕ) → length message ≤ 17 → digest_of message ≡ Some (sha256 message)
unfolding digest_of
short_digest message h = rw (le-leb (length message) longest_input (omega arith))

-- The proof that the client builds, as a writer takes it.
pub kept_built : (client : Client) (counted : ReplicaSet) → length client.signatures ≡ 1_024 → (proof : Built) → Keeps (built client counted client.signatures) proof
    → entries_kept proof.entries proof.count ≡ built client counted client.signatures
kept_built client counted long proof k =
    let n = replica_count client.f in
    kept (built client counted client.signatures) proof (built_sized counted client.signatures long n (omega arith)) (rw length-take (omega arith)) k

-- A proof whose timestamp is larger than another is there.
pub better_there : (n : ℕ) (proof : List ℕ) → ltb n (prepared_timestamp (prepared_part proof)) ≡ true → (0 < length proof) × (prepared_part proof ≡ some (prepared_from proof))
better_there n [] h = absurd (let less = ltb-true n 0 h in omega arith)
better_there n (byte ∷ bytes) h = (omega arith, refl)
