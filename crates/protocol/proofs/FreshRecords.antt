-- Fresh records fit. Assumes nothing.
use mathlib.Core.Path.{sym, subst}
use mathlib.Core.Bool.{false}
use Prim.Native.Nat.{ℕ, ◌^◌, ◌<◌}
use native.Mathlib.Omega.{arith}
use lib.ListN.{get_or, replicate, length-replicate, get_or-replicate}
use Rattle.base.specs.Timestamp.{start}
use Rattle.base.specs.declared.party.ClientId.{ClientId}
use Rattle.base.specs.declared.party.ReplicaId.{ReplicaId}
use Rattle.protocol.specs.Client.{no_written, fresh_client}
use Rattle.protocol.specs.RegisterReplica.{fresh_register, fresh_register_replica}
use Rattle.protocol.specs.declared.client.Written.{Written}
use Rattle.protocol.proofs.ArrayLaws.{bytes_zeros, zeros_fit}
use Rattle.protocol.proofs.Fit.{SlotsFit, HeldFits, RegisterReplicaFits, WrittenKeptFits, ClientFits}

fresh_slots_fit : SlotsFit fresh_register.slots
unfolding fresh_register
fresh_slots_fit = record {
  counts_long = length-replicate {A = ℕ} 64 0;
  counts_fit = λ i. zeros 64 i;
  digests_fit = zeros_fit 2048;
  written_fits = omega arith;
}
  where
    zeros : (n i : ℕ) → get_or (replicate n 0) i 0 < 2 ^ 32
    zeros n i = let b = bytes_zeros n i in omega arith

fresh_held_fits : HeldFits fresh_register.held
unfolding fresh_register
fresh_held_fits = record { timestamp_fits = omega arith; card_fits = zeros_fit 17; digest_fits = zeros_fit 32; entries_fit = zeros_fit 715 }

pub fresh_replica_fits : (f : ℕ) (id : ReplicaId) → id.0 < 256 → RegisterReplicaFits (fresh_register_replica f id)
fresh_replica_fits f id low = record { id_fits = low; slots_fit = fresh_slots_fit; held_fits = fresh_held_fits }

abbrev unwritten : Written
unwritten = record { timestamp = start; entry_count = 0; entries = replicate 715 0; own = false }

pub fresh_client_fits : (f : ℕ) (id : ClientId) (nonce : ℕ) → id.0 < 256 → nonce < 2 ^ 64 → ClientFits (fresh_client f id nonce)
fresh_client_fits f id nonce low small = record {
  id_fits = low;
  nonce_fits = omega arith;
  card_fits = zeros_fit 17;
  digest_fits = zeros_fit 32;
  entries_fit = zeros_fit 715;
  signatures_fit = zeros_fit 1024;
  written_long = length-replicate 16 unwritten;
  written_fit = λ at inside. subst WrittenKeptFits (sym (get_or-replicate 16 at unwritten no_written inside)) (record { timestamp_fits = omega arith; entries_fit = zeros_fit 715 });
}
