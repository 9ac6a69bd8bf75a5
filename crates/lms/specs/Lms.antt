-- LMS, the signature of RFC 8554, for LMS_SHA256_M32_H5 with LMOTS_SHA256_N32_W8; the section numbers are that document's.
use Rattle.std.specs.Prelude.{Bool, ◌&&◌, cond, List, ◌++◌, ℕ, zero, suc, ◌+◌, ◌-◌, ◌*◌, ◌/◌, ◌%◌, ◌^◌, eqb, leb, ltb, length, take, drop}
use Rattle.base.specs.Same.{same}
use Rattle.wire.specs.Sha256.{sha256, longest_input}
use Rattle.lms.specs.LmOts.{u32str, number, head, n, p, LMOTS_SHA256_N32_W8, Kc}

-- 5.1: the parameters and the type code.
abbrev pub m : ℕ
m = 32

abbrev pub h : ℕ
h = 5

abbrev pub LMS_SHA256_M32_H5 : ℕ
LMS_SHA256_M32_H5 = 5

-- 5.3: the constants that tell a leaf's hash and an inner node's, and the public key of a tree with identifier I and root T[1].
abbrev pub D_LEAF : ℕ
D_LEAF = 0x8282

abbrev pub D_INTR : ℕ
D_INTR = 0x8383

unfoldable pub public_key : List ℕ → List ℕ → List ℕ
public_key I T = u32str LMS_SHA256_M32_H5 ++ (u32str LMOTS_SHA256_N32_W8 ++ (I ++ T))

abbrev pub identifier : List ℕ → List ℕ
identifier key = take 16 (drop 8 key)

abbrev pub root : List ℕ → List ℕ
root key = take m (drop 24 key)

-- 5.4: the parts of a signature, u32str(q) ‖ lmots_signature ‖ u32str(type) ‖ path[0] ‖ .. ‖ path[h - 1].
abbrev pub leaf_number : List ℕ → ℕ
leaf_number signature = number signature 0

abbrev pub one_time_signature : List ℕ → List ℕ
one_time_signature signature = take (4 + n * (p + 1)) (drop 4 signature)

abbrev pub path : List ℕ → ℕ → List ℕ
path signature i = take m (drop (12 + n * (p + 1) + m * i) signature)

-- Algorithms 6, 6a and 4b, their steps 1 and 2: the lengths, 56 and 1,292, the type codes, and q.
unfoldable pub is_public_key : List ℕ → Bool
is_public_key key = eqb (length key) (24 + m) && (eqb (number key 0) LMS_SHA256_M32_H5 && eqb (number key 4) LMOTS_SHA256_N32_W8)

unfoldable pub signature_formed : List ℕ → Bool
signature_formed signature =
    eqb (length signature) (12 + n * (p + 1) + m * h)
    && (eqb (number signature 4) LMOTS_SHA256_N32_W8
    && (eqb (number signature (8 + n * (p + 1))) LMS_SHA256_M32_H5 && ltb (leaf_number signature) (2 ^ h)))

-- 5.4.2, Algorithm 6a, step 3. The hash of a leaf, and of a node's parent by the node's own hash and its sibling's: an odd node stands on the right.
unfoldable pub leaf : List ℕ → ℕ → List ℕ → List ℕ
leaf I node K = sha256 (head I node D_LEAF ++ K)

unfoldable pub parent : List ℕ → ℕ → List ℕ → List ℕ → List ℕ
parent I node sibling tmp =
    cond (eqb (node % 2) 1) (sha256 (head I (node / 2) D_INTR ++ (sibling ++ tmp))) (sha256 (head I (node / 2) D_INTR ++ (tmp ++ sibling)))

-- The node i levels above one, and its hash.
unfoldable pub above : ℕ → ℕ → ℕ
above node zero = node
above node (suc i) = above node i / 2

unfoldable pub climb : List ℕ → List ℕ → ℕ → List ℕ → ℕ → List ℕ
climb I signature node tmp zero = tmp
climb I signature node tmp (suc i) = parent I (above node i) (path signature i) (climb I signature node tmp i)

-- The root that the path leads to from leaf q, a candidate.
unfoldable pub Tc : List ℕ → ℕ → List ℕ → List ℕ → List ℕ
Tc I q message signature = let node = 2 ^ h + q in climb I signature node (leaf I node (Kc I q message (one_time_signature signature))) h

-- The 54 bytes before the message, head and C, are hashed with it, and the digest takes 4,096: a longer message is not genuine.
abbrev pub longest_message : ℕ
longest_message = longest_input - 54

-- Algorithm 6.
unfoldable pub genuine : List ℕ → List ℕ → List ℕ → Bool
genuine key message signature =
    is_public_key key
    && (signature_formed signature
    && (leb (length message) longest_message && same (Tc (identifier key) (leaf_number signature) message signature) (root key)))
