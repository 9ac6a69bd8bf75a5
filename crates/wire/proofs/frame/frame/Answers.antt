-- `wire::frame::frame` meets its contract.
use Rattle.std.proofs.Common.{sym, ◌∙◌}
use Rattle.wire.proofs.FrameTests.{bad_length, bad_map, the_map, to_end, laid}
use Rattle.wire.proofs.frame.frame.Goals as goal

pub returns-then-bytes-lt2 : goal.returns-then-bytes-lt2
returns-then-bytes-lt2 c = bad_length _ _ c.then-bytes-lt2.either

pub returns-then-map-ne3 : goal.returns-then-map-ne3
returns-then-map-ne3 c = bad_map _ _ c.if-bytes-lt2.false c.if-bytes-gt-LONGEST_MESSAGE.false _ c.from_be_bytes-map.ensures c.then-map-ne3.either

pub lay-requires : goal.lay-requires
lay-requires c = (the_map _ c.if-bytes-lt2.false _ c.from_be_bytes-map.ensures, c.if-bytes-lt2.false)

pub returns : goal.returns
returns c =
    laid _ _ c.lay.ensures ∙ sym (to_end _ _ c.if-bytes-lt2.false c.if-bytes-gt-LONGEST_MESSAGE.false _ c.from_be_bytes-map.ensures c.if-map-ne3.false c.if-map-ge-MAPS.false)
