-- LM-OTS, the one-time signature of RFC 8554, for LMOTS_SHA256_N32_W8; the section numbers are that document's.
-- A string is a list of bytes, ‖ is _++_, and H is SHA-256.
use Rattle.std.specs.Prelude.{List, [], ◌++◌, ℕ, zero, suc, ◌+◌, ◌-◌, ◌*◌, ◌/◌, ◌%◌, ◌^◌, get_or, take, drop}
use Rattle.std.specs.Int.Bits.{bit_and}
use Rattle.base.specs.BigEndian.{from_bytes, to_bytes}
use Rattle.wire.specs.Sha256.{sha256}

-- 3.1: a number as a string of one, two or four bytes, the number that a string writes, and a string's i-th byte.
abbrev pub u8str : ℕ → List ℕ
u8str x = to_bytes 1 x

abbrev pub u16str : ℕ → List ℕ
u16str x = to_bytes 2 x

abbrev pub u32str : ℕ → List ℕ
u32str x = to_bytes 4 x

abbrev pub str_tou32 : List ℕ → ℕ
str_tou32 S = from_bytes S

abbrev pub byte : List ℕ → ℕ → ℕ
byte S i = get_or S i 0

-- 3.1.3: the i-th w-bit value of a string, (2^w - 1) AND (byte(S, floor(i * w / 8)) >> (8 - (w * (i % (8 / w)) + w))).
unfoldable pub coef : List ℕ → ℕ → ℕ → ℕ
coef S i w = bit_and (2 ^ w - 1) (byte S (i * w / 8) / 2 ^ (8 - (w * (i % (8 / w)) + w)))

-- 4.1: the parameters (ls is 0) and the type code.
abbrev pub n : ℕ
n = 32

abbrev pub w : ℕ
w = 8

abbrev pub p : ℕ
p = 34

abbrev pub LMOTS_SHA256_N32_W8 : ℕ
LMOTS_SHA256_N32_W8 = 4

-- The number in four bytes of a string, and n bytes of it, from a place on.
abbrev pub number : List ℕ → ℕ → ℕ
number S at = str_tou32 (take 4 (drop at S))

abbrev pub part : List ℕ → ℕ → List ℕ
part S at = take n (drop at S)

-- What a hash starts with: I ‖ u32str(q) ‖ u16str(d). Here d tells what is hashed: a chain by its number, and 4.3 and 4.5 have a constant each.
unfoldable pub head : List ℕ → ℕ → ℕ → List ℕ
head I q d = I ++ (u32str q ++ u16str d)

abbrev pub D_PBLC : ℕ
D_PBLC = 0x8080

abbrev pub D_MESG : ℕ
D_MESG = 0x8181

-- 4.4, Algorithm 2: the sum over the first i values, and Cksm(S), over all n * 8 / w; ls is 0, so nothing is shifted.
unfoldable pub sum : List ℕ → ℕ → ℕ
sum S zero = 0
sum S (suc i) = sum S i + (2 ^ w - 1 - coef S i w)

unfoldable pub Cksm : List ℕ → List ℕ
Cksm S = u16str (sum S (n * 8 / w))

unfoldable pub checked : List ℕ → List ℕ
checked S = S ++ Cksm S

-- 4.5: the parts of an LM-OTS signature, u32str(type) ‖ C ‖ y[0] ‖ .. ‖ y[p - 1].
abbrev pub C : List ℕ → List ℕ
C signature = part signature 4

abbrev pub y : List ℕ → ℕ → List ℕ
y signature i = part signature (4 + n + n * i)

-- 4.6, Algorithm 4b, step 3. Q = H(I ‖ u32str(q) ‖ u16str(D_MESG) ‖ C ‖ message).
unfoldable pub Q : List ℕ → ℕ → List ℕ → List ℕ → List ℕ
Q I q message signature = sha256 (head I q D_MESG ++ (C signature ++ message))

-- `count` steps tmp = H(I ‖ u32str(q) ‖ u16str(i) ‖ u8str(j) ‖ tmp), from j = a and tmp = start on; `front` is what stands before j.
unfoldable pub chain : List ℕ → ℕ → ℕ → List ℕ → List ℕ
chain front a zero start = start
chain front a (suc count) start = sha256 (front ++ (u8str (a + count) ++ chain front a count start))

-- z[i]: y[i] after the steps a to 2^w - 2, where a is value i of S = Q ‖ Cksm(Q); and z[0] ‖ .. ‖ z[i - 1].
abbrev pub z : List ℕ → ℕ → List ℕ → List ℕ → ℕ → List ℕ
z I q S signature i = let a = coef S i w in chain (head I q i) a (2 ^ w - 1 - a) (y signature i)

unfoldable pub zs : List ℕ → ℕ → List ℕ → List ℕ → ℕ → List ℕ
zs I q S signature zero = []
zs I q S signature (suc i) = zs I q S signature i ++ z I q S signature i

-- The public key that a signature's chains end in, a candidate: Kc = H(I ‖ u32str(q) ‖ u16str(D_PBLC) ‖ z[0] ‖ .. ‖ z[p - 1]).
unfoldable pub Kc : List ℕ → ℕ → List ℕ → List ℕ → List ℕ
Kc I q message signature = sha256 (head I q D_PBLC ++ zs I q (checked (Q I q message signature)) signature p)
