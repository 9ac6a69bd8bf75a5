-- What fits is hashed. Assumes nothing.
use mathlib.Core.Path.{◌≡◌}
use mathlib.Core.List.{List}
use Prim.Native.Nat.{ℕ, ◌≤◌}
use borrow.Author.Tests.{le-leb}
use lib.ListN.{length}
use Rattle.std.specs.declared.option.Option.TheVariants.{Some}
use Rattle.wire.specs.Sha256.{longest_input, sha256, digest_of}

pub hashed : (m : List ℕ) → length m ≤ longest_input → digest_of m ≡ Some (sha256 m)
unfolding digest_of
hashed m fits = rw (le-leb (length m) longest_input fits)
