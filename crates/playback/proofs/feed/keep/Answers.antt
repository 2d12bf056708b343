use Rattle.std.proofs.Common.{vec_items, ◌∙◌, arith, rules}
use Rattle.playback.proofs.Joining.{keeps}
use Rattle.playback.proofs.feed.keep.Goals as goal

pub returns : goal.returns
returns c =
    let v = c.args.begun.now in
    record {
      kept =
          keeps c.extend_from_slice.result (vec_items v) c.args.part.now (vec_items c.extend_from_slice.new.self) c.room-more.result c.len.result
          (c.len.ensures ∙ v.ok.0) (omega (arith, c.requires, v.ok.0)) c.room-more.ensures c.extend_from_slice.ensures.items;
      short = search rules;
    }
