-- The messages that were sent, as the player keeps them: a store of bytes, 1,580 for each message, and how long each is.
use Rattle.std.specs.Prelude.{cond, List, ℕ, ◌+◌, ◌*◌, min, ltb, length, get_or, take, drop, set, replicate}
use Rattle.wire.specs.Message.{longest}
use Rattle.play.specs.declared.log.Log.{Log}

unfoldable pub empty_log : Log
empty_log = record { count = 0; lengths = replicate 100 0 }

-- Where the message behind so many others starts in a store of that size.
unfoldable pub start : ℕ → ℕ → ℕ
start before size = min (longest * before) size

-- The length of the message behind so many others.
unfoldable pub sent_length : Log → ℕ → ℕ
sent_length log before = cond (ltb before 100) (get_or log.lengths before 0) 0

unfoldable pub message : Log → List ℕ → ℕ → List ℕ
message log store before = take (sent_length log before) (drop (start before (length store)) store)

-- A message of so many bytes more. "It reads the first 100 lines", so there are never more than 100.
unfoldable pub logged : ℕ → Log → Log
logged size log = cond (ltb log.count 100) (record { count = log.count + 1; lengths = set log.lengths log.count size }) log
