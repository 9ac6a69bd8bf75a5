-- A signature of the right length and codes is genuine under the key whose root Algorithm 6a makes of it. Assumes nothing.
use mathlib.Core.Path.{◌≡◌, refl, ◌∙◌}
use mathlib.Core.Bool.{Bool, true, false, cond}
use mathlib.Core.List.{List, ◌∷◌, ◌++◌}
use Prim.Native.Nat.{ℕ, ◌%◌, ◌≤◌, ◌<◌}
use native.Mathlib.Omega.{arith}
use borrow.Author.Tests.{eq-eqb, lt-ltb}
use lib.Dec.{eqb}
use lib.ListN.{length, length-append}
use lib.Seq.{take_at, drop_at, take_all}
use Rattle.base.specs.BigEndian.{from_bytes, to_bytes, Bytes}
use Rattle.base.proofs.Same.{same_itself}
use Rattle.wire.specs.Message.{IsDigest}
use Rattle.lms.specs.LmOts.{number}
use Rattle.lms.specs.Lms.{parent, climb, Tc, identifier, root, leaf_number, is_public_key, signature_formed, genuine, public_key}
use Rattle.wire.proofs.DigestBytes.{digest_fits}
use Rattle.lms.proofs.Tested.{genuine_when}

either_digest : (b : Bool) (x y : List ℕ) → IsDigest x → IsDigest y → IsDigest (cond b x y)
either_digest true x y h k = h
either_digest false x y h k = k

parent_digest : (I : List ℕ) (node : ℕ) (sibling tmp : List ℕ) → IsDigest (parent I node sibling tmp)
unfolding parent
parent_digest I node sibling tmp = either_digest (eqb (node % 2) 1) _ _ (digest_fits _) (digest_fits _)

module _ (I : List ℕ) (q : ℕ) (message signature : List ℕ) where
  Tc-digest : IsDigest (Tc I q message signature)
  unfolding Tc climb
  Tc-digest = parent_digest I _ _ _

  pub length_Tc : length (Tc I q message signature) ≡ 32
  length_Tc = Tc-digest.0

  pub bytes_Tc : Bytes (Tc I q message signature)
  bytes_Tc = Tc-digest.1

key_list : (I T : List ℕ) → public_key I T ≡ 0 ∷ 0 ∷ 0 ∷ 5 ∷ 0 ∷ 0 ∷ 0 ∷ 4 ∷ (I ++ T)
unfolding public_key to_bytes
key_list I T = refl

module _ (I T : List ℕ) (i : length I ≡ 16) (t : length T ≡ 32) where
  pub public_key_is : is_public_key (public_key I T) ≡ true
  unfolding is_public_key from_bytes
  public_key_is =
      let long : length (I ++ T) ≡ 48 = length-append I T ∙ omega arith in
      let all : length (0 ∷ 0 ∷ 0 ∷ 5 ∷ 0 ∷ 0 ∷ 0 ∷ 4 ∷ (I ++ T)) ≡ 56 = omega arith in
      rw (key_list I T, eq-eqb _ 56 all)

  key_identifier : identifier (public_key I T) ≡ I
  key_identifier = rw (key_list I T, take_at I T 16 i)

  key_root : root (public_key I T) ≡ T
  key_root = rw (key_list I T, drop_at I T 16 i, take_all 32 T (omega arith))

module _ (I message signature : List ℕ) (i : length I ≡ 16) (size : length signature ≡ 1292) (one_time : number signature 4 ≡ 4)
    (tree : number signature 1128 ≡ 5) (low : leaf_number signature < 32) where
  signature_formed_lem : signature_formed signature ≡ true
  unfolding signature_formed
  signature_formed_lem = rw (eq-eqb _ 1292 size, eq-eqb _ 4 one_time, eq-eqb _ 5 tree, lt-ltb _ 32 low)

  pub key_for : length message ≤ 4042 → genuine (public_key I (Tc I (leaf_number signature) message signature)) message signature ≡ true
  key_for short =
      let T = Tc I (leaf_number signature) message signature in
      let t = length_Tc I (leaf_number signature) message signature in
      genuine_when (public_key I T) message signature (public_key_is I T i t) signature_formed_lem short
      ∙ rw (key_identifier I T i t, key_root I T i t) (same_itself T)
