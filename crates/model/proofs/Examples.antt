-- The played examples.
use Rattle.std.proofs.Common.{◌≡◌, ℕ, [], ◌∷◌, Some, None, Ok, Err, Option, Result, sym, refl, ap, ◌∙◌, subst, inl, inr, arith}
use Rattle.std.proofs.lemmas.Bool.{both_ways}
use Rattle.lines.specs.Sets.{has, union, common, minus, only, Within}
use Rattle.lines.proofs.Laws.{has_none}
use Rattle.lines.proofs.Algebra.{within_from, empty_from}
use Rattle.controller.specs.declared.fault.ControllerFault.{ControllerFault}
use Rattle.controller.specs.declared.fault.Raised.TheVariants.{New, Merged}
use Rattle.controller.specs.View.{View, Sound, Deliverable, set_pending, set_masked, set_in_service}
use Rattle.optimistic.specs.Logging.{Logs, freed}
use Rattle.model.specs.Alone.{take_said, mask_said, Soft, soft_told, SoftTakes, SoftMasks, SoftActs, Play, Played}
use Rattle.model.specs.Alone.Act.{raise, mask, take, end}
use Rattle.model.specs.Alone.Said.{new, merged, ok, none, line}
use Rattle.model.specs.Examples.{pair, vectored, optimistic, examples, ExamplesHold}
use Rattle.model.proofs.Orders.{pair_sound, vectored_sound}
use Rattle.model.proofs.Computed.{end_result, take_computed, end_computed}
use Rattle.model.proofs.Alone.{plays, leaves, leaves_sound, played, only_told}
use Rattle.model.proofs.Softly.{soft_acts_told, logs_test, logs_by}
use Rattle.model.proofs.Leveled.{set_to_net, played_at_net}

-- ---- the optimistic layer on the pair

-- by what is pending, masked and in service below, the soft mask and the log
abbrev at : ℕ → ℕ → ℕ → ℕ → ℕ → Soft
at p m i soft log = record { below = set_in_service (set_masked (set_pending pair p) m) i; soft = soft; log = log }

abbrev masked_once : Soft
masked_once = at 0 0 0 0x10 0

abbrev raised_once : Soft
raised_once = at 0x10 0 0 0x10 0

abbrev logged_once : Soft
logged_once = at 0 0x10 0 0x10 0x10

abbrev freed_again : Soft
freed_again = at 0x10 0 0 0 0

abbrev served : Soft
served = at 0 0 0x10 0 0

-- what it tells in each is sound
told_1 : Sound (soft_told masked_once)
unfolding leaves has union minus only
told_1 = leaves_sound pair (mask 0x10) pair_sound

told_2 : Sound (soft_told raised_once)
unfolding leaves has union minus only
told_2 = leaves_sound (soft_told masked_once) (raise 4) told_1

under_2 : Sound raised_once.below
unfolding leaves has union minus only
under_2 = leaves_sound pair (raise 4) pair_sound

told_4 : Sound (soft_told freed_again)
unfolding leaves has union minus only
told_4 = leaves_sound (soft_told raised_once) (mask 0) told_2

told_5 : Sound (soft_told served)
unfolding leaves has union minus only
told_5 = leaves_sound (soft_told freed_again) take told_4

in_lines : Within 0x10 pair.lines
unfolding minus
in_lines = within_from 0x10 pair.lines refl

none_in : Within 0 pair.lines
none_in n h = absurd (both_ways _ (has_none n) h)

masks : SoftActs (optimistic pair) (mask 0x10) ok masked_once
unfolding union common minus
masks = record { result = Ok tt; does = ((in_lines, refl), (in_lines, refl, refl, refl)); answers = refl }

raises : SoftActs masked_once (raise 4) new raised_once
unfolding has union only
raises = record { result = Ok New; does = ((refl, refl, refl), refl, refl, (refl, refl, refl)); answers = refl }

logs : SoftActs raised_once take none logged_once
unfolding leaves has union minus only logs_test
logs = record { result = None; does = (take_computed (soft_told raised_once) told_2, refl, logs_by raised_once.below under_2 0x10 0 None 0x10 (omega arith) (omega arith) refl, refl); answers = refl }

merges : SoftActs logged_once (raise 4) merged logged_once
unfolding has union only
merges = record { result = Ok Merged; does = ((refl, refl, refl), refl, refl, (refl, inl refl)); answers = refl }

frees : SoftActs logged_once (mask 0) ok freed_again
unfolding union common minus
frees = record { result = Ok tt; does = ((none_in, refl), (none_in, refl, refl, refl)); answers = refl }

takes : SoftActs freed_again take (line 4) served
unfolding leaves has union minus only logs_test
takes = record { result = Some 4; does = (take_computed (soft_told freed_again) told_4, refl, logs_by freed_again.below told_4 0 0 (Some 4) 0 (omega arith) (omega arith) refl, refl); answers = refl }

ends : SoftActs served end (line 4) (optimistic pair)
unfolding leaves has union minus only end_result
ends = record { result = Ok 4; does = (end_computed (soft_told served) told_5, refl, refl, end_computed served.below told_5); answers = refl }

still : SoftActs masked_once take none masked_once
unfolding leaves has union minus only logs_test
still = record { result = None; does = (take_computed (soft_told masked_once) told_1, refl, logs_by pair pair_sound 0x10 0 None 0 (omega arith) (omega arith) refl, refl); answers = refl }

rests : SoftActs (optimistic pair) take none (optimistic pair)
unfolding leaves has union minus only logs_test
rests = record { result = None; does = (take_computed pair pair_sound, refl, logs_by pair pair_sound 0 0 None 0 (omega arith) (omega arith) refl, refl); answers = refl }

abbrev merged_play : Play
merged_play = (mask 0x10, ok) ∷ (raise 4, new) ∷ (take, none) ∷ (raise 4, merged) ∷ (mask 0, ok) ∷ (take, line 4) ∷ (end, line 4) ∷ (take, none) ∷ []

softly : Played SoftActs (optimistic pair) merged_play (λ _. Unit {0})
unfolding plays has union minus only
softly =
    record {
      possible = (optimistic pair, (masked_once, masks, (raised_once, raises, (logged_once, logs, (logged_once, merges, (freed_again, frees, (served, takes, (optimistic pair, ends, (optimistic pair, rests, refl)))))))));
      only = only_told SoftActs soft_told soft_acts_told (optimistic pair) pair_sound merged_play refl;
      left = λ t p. tt;
    }

freed_none : freed pair 0 0x10 ≡ pair
unfolding union minus common
freed_none = refl

common_none : common 0 0x10 ≡ 0
unfolding common
common_none = refl

-- nothing was pending, so that the take logged nothing and wrote nothing below
none_deliverable : (v : View) → v.pending ≡ 0 → (n : ℕ) → Deliverable v n → ⊥
none_deliverable v e n d = both_ways _ (has_none n) (sym (ap (λ s. has s n) e) ∙ d.pends)

log_empty : (v : View) (soft log : ℕ) → v.pending ≡ 0 → Logs v soft 0 None log → log ≡ 0
log_empty v soft log e h =
    empty_from log (λ n m. elim ((h n).0 m) [ inl x ↦ both_ways _ (has_none n) x | inr x ↦ none_deliverable v e n x.1 ])

take_nothing : (s t : Soft) → s.below ≡ pair → s.log ≡ 0 → SoftActs s take none t → t.below.masked ≡ 0
take_nothing s t e f p = at_result p.result p.answers p.does
  where
    at_result : (r : Option ℕ) → none ≡ take_said r → SoftTakes s r t → t.below.masked ≡ 0
    at_result None q (told, soft, logs, below) =
        ap (λ v. v.masked) below ∙ log_empty s.below s.soft t.log (ap (λ v. v.pending) e) (subst (λ l. Logs s.below s.soft l None t.log) f logs)
    at_result (Some n) q d = absurd (let z : ◌≡◌ {A = ℕ} 0 1 = cc in omega arith)

mask_nothing : (t : Soft) → SoftActs (optimistic pair) (mask 0x10) ok t → (t.below ≡ pair) × (t.log ≡ 0)
mask_nothing t p = at_result p.result p.answers p.does
  where
    at_result : (r : Result (Unit {0}) ControllerFault) → ok ≡ mask_said r → SoftMasks 0x10 (optimistic pair) r t → (t.below ≡ pair) × (t.log ≡ 0)
    at_result (Ok u) q (told, (w, soft, log, below)) = (below ∙ freed_none, log ∙ common_none)
    at_result (Err e) q d = absurd (let z : ◌≡◌ {A = ℕ} 0 1 = cc in omega arith)

abbrev quiet_play : Play
quiet_play = (mask 0x10, ok) ∷ (take, none) ∷ []

quietly : Played SoftActs (optimistic pair) quiet_play (λ t. t.below.masked ≡ 0)
unfolding plays has union minus only
quietly =
    record {
      possible = (masked_once, (masked_once, masks, (masked_once, still, refl)));
      only = only_told SoftActs soft_told soft_acts_told (optimistic pair) pair_sound quiet_play refl;
      left = λ t p. let s = p.0 in let q = p.2 in let m = mask_nothing s p.1 in
          subst (λ x. x.below.masked ≡ 0) (sym q.2) (take_nothing s q.0 m.0 m.1 q.1);
    }

pub examples_hold : ExamplesHold examples
unfolding plays has union minus only
examples_hold = (
  played pair pair_sound _ refl,
  (
    played pair pair_sound _ refl,
    (
      played pair pair_sound _ refl,
      (
        played vectored vectored_sound _ refl,
        (
          softly,
          (
            quietly,
            (
              (set_to_net, played_at_net),
              (played pair pair_sound _ refl, tt),
            ),
          ),
        ),
      ),
    ),
  ),
)
