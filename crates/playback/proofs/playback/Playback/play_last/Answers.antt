use Rattle.std.proofs.Common.{length, vec_items, sym, refl}
use Rattle.std.proofs.lemmas.Bool.{eqb-true, eqb-false}
use Rattle.trace.specs.Sessions.{has_started}
use Rattle.playback.specs.States.{state}
use Rattle.playback.proofs.Looping.{plays_no_last, plays_a_last}
use Rattle.playback.proofs.playback.Playback.play_last.Goals as goal

pub returns-then-is_empty : goal.returns-then-is_empty
returns-then-is_empty c =
    record {
      lent = (refl, refl);
      plays = plays_no_last (has_started c.args.self.session) (state c.args.self.session c.args.saved.now) c.args.begun.now (vec_items c.args.listing.now) (eqb-true (length c.args.begun.now) 0 (sym (c.if-is_empty.ensures)));
    }

pub returns-clause-plays : goal.returns-clause-plays
returns-clause-plays c =
    plays_a_last c.play_line.result (λ p. has_started p.session) (λ p. state p.session c.play_line.new.saved) (has_started c.args.self.session) (state c.args.self.session c.args.saved.now)
    c.args.begun.now (vec_items c.args.listing.now) (vec_items c.play_line.new.listing) (eqb-false (length c.args.begun.now) 0 (sym c.if-is_empty.ensures)) c.play_line.ensures.plays
