-- What opens for a run to compute: a proof by `refl` names `steps`, and `digests` where SHA-256 computes too. Assumes nothing.
use Rattle.base.specs.BigEndian.{from_bytes, to_bytes}
use Rattle.base.specs.ClientSet.{has as has_client, with as with_client}
use Rattle.base.specs.Counting.{count}
use Rattle.base.specs.Outcome.{guard}
use Rattle.base.specs.Range.{within}
use Rattle.base.specs.ReplicaSet.{has, with, with_all}
use Rattle.base.specs.Rising.{rising}
use Rattle.base.specs.Same.{same}
use Rattle.protocol.specs.Client.{gathered, begin_write, begin_read, after_stamp, on_stamp, after_prepared, on_prepared, after_written, after_write_back, on_written, after_card, count_card, on_card, client_step, on_reply}
use Rattle.protocol.specs.Handing.{take_proof}
use Rattle.protocol.specs.Bank.{no_register, bank_step}
use Rattle.protocol.specs.Order.{ordered, take_order}
use Rattle.protocol.specs.RegisterReplica.{fresh_register, after_prepare, after_write, register_step, on_request}
use Rattle.protocol.specs.Viewer.{after_view, viewer_step, on_viewer_reply}
use Rattle.run.specs.Run.{bank_at, client_at, answer_to}
use Rattle.wire.specs.Card.{table, read_fields, good_card_map, read_card}
use Rattle.wire.specs.Acceptance.{admits, admitted}
use Rattle.wire.specs.Checks.{entries_of, all, one_verdict_each, shaped, proven, checked, proof_outcome}
use Rattle.wire.specs.Decode.{kinds, of_kind, framed, message_in, decode}
use Rattle.wire.specs.HandedProof.{admitted_proof}
use Rattle.wire.specs.Layout.{rules, place, field}
use Rattle.wire.specs.Message.{fields, joined, body, encode}
use Rattle.wire.specs.Order.{is_order}
use Rattle.wire.specs.Proof.{entries_bytes, proof_bytes, read_entries, read_proof}
use Rattle.wire.specs.Sha256.{Ch, Maj, Σ₀, Σ₁, σ₀, σ₁, K, H⁰, padding_zeros, padded, word_of, words, next_word, schedule, T₁, T₂, rounds, next_hash, compress, hash_value, hash_bytes, sha256}

unfoldable pub messages : Unit {0}
unfolding from_bytes to_bytes guard within same rules place field kinds of_kind framed message_in decode fields joined body encode entries_bytes proof_bytes read_entries read_proof
messages = tt

unfoldable pub steps : Unit {0}
unfolding messages count has_client with_client has with with_all rising entries_of all one_verdict_each shaped proven checked admits admitted proof_outcome table read_fields good_card_map read_card fresh_register after_prepare after_write on_request register_step is_order ordered take_order no_register bank_step gathered begin_write begin_read after_stamp on_stamp after_prepared on_prepared after_written after_write_back on_written after_card count_card on_card on_reply client_step admitted_proof take_proof after_view on_viewer_reply viewer_step bank_at client_at answer_to
steps = tt

unfoldable pub digests : Unit {0}
unfolding from_bytes to_bytes Ch Maj Σ₀ Σ₁ σ₀ σ₁ K H⁰ padding_zeros padded word_of words next_word schedule T₁ T₂ rounds next_hash compress hash_value hash_bytes sha256
digests = tt
