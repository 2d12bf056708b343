use Rattle.playback.proofs.Joining.{blocks_join, block_is_text}
use Rattle.playback.proofs.feed.a_trace_may_come_in_blocks.Goals as goal

pub returns : goal.returns
returns c = record { join = blocks_join; whole = block_is_text }
