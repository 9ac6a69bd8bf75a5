-- Timestamps and their numbers: order, successor, bytes. Assumes nothing.
use mathlib.Core.Path.{◌≡◌, refl}
use mathlib.Core.Bool.{Bool, true, false, ◌&&◌, ◌||◌, cond}
use Prim.Native.Nat.{ℕ, ◌+◌, ◌*◌, ◌/◌, ◌%◌, ◌<◌}
use native.Mathlib.Omega.{arith}
use borrow.Author.Tests.{eqb-true, eqb-false, ltb-true, ltb-false, lt-ltb, le-ltb}
use lib.Dec.{eqb, ltb}
use Rattle.std.specs.declared.option.Option.TheVariants.{Some, None}
use Rattle.base.specs.Timestamp.{number, of_number, is_before, successor}
use Rattle.base.specs.declared.party.ClientId.{ClientId}
use Rattle.base.specs.declared.timestamp.Timestamp.{Timestamp}
use Rattle.base.proofs.Apart.{apart}

-- A timestamp is told by its number.
pub of_number_number : (t : Timestamp) → t.client.0 < 256 → of_number (number t) ≡ t
of_number_number t h =
    let count : number t / 256 ≡ t.count = omega arith in
    let client : number t % 256 ≡ t.client.0 = omega arith in
    rw (count, client)

pub number_of_number : (n : ℕ) → number (of_number n) ≡ n
number_of_number n = omega arith

-- Document 01: "Counts compare first, then desks."
pub counts_first : (a b : Timestamp) → a.client.0 < 256 → b.client.0 < 256 → ltb (number a) (number b) ≡ is_before a b
counts_first a b ha hb = go (eqb a.count b.count) (ltb a.count b.count) (ltb a.client.0 b.client.0) refl refl refl
  where
    go : (same less lower : Bool) → eqb a.count b.count ≡ same → ltb a.count b.count ≡ less → ltb a.client.0 b.client.0 ≡ lower → ltb (number a) (number b) ≡ (less || (same && lower))
    go same true lower s l c = let first = ltb-true a.count b.count l in lt-ltb (number a) (number b) (omega arith)
    go false false lower s l c =
        let apart = eqb-false a.count b.count s in
        let first = ltb-false a.count b.count l in
        le-ltb (number a) (number b) (omega arith)
    go true false true s l c =
        let equal = eqb-true a.count b.count s in
        let second = ltb-true a.client.0 b.client.0 c in
        lt-ltb (number a) (number b) (omega arith)
    go true false false s l c =
        let equal = eqb-true a.count b.count s in
        let second = ltb-false a.client.0 b.client.0 c in
        le-ltb (number a) (number b) (omega arith)

-- A successor as a number: one count further, with the client that takes it.
pub successor_number : (t s : Timestamp) (client : ClientId) → t.client.0 < 256 → successor t client ≡ Some s → number s ≡ (number t / 256 + 1) * 256 + client.0
successor_number t s client h e = go (eqb t.count 4_294_967_295) e
  where
    go : (last : Bool) → cond last None (Some (record { count = t.count + 1; client = client })) ≡ Some s → number s ≡ (number t / 256 + 1) * 256 + client.0
    go true k = apart (cc)
    go false k =
        let made : ◌≡◌ {A = Timestamp} (record { count = t.count + 1; client = client }) s = cc in
        rw (← made) (omega arith)
