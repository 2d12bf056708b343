-- The spl layer by itself: on the vectored controller, with the root's policy at the level net.
use Rattle.std.proofs.Common.{◌≡◌, ℕ, Bool, true, not, ◌&&◌, ltb, [], ◌∷◌, Some, None, Ok, Err, Result, sym, refl, ap, ◌∙◌, subst, inl, inr, arith}
use Rattle.std.proofs.lemmas.Bool.{cases_lt}
use Rattle.lines.specs.Sets.{has, union, minus, only, Within}
use Rattle.lines.proofs.Laws.{ext, not_has}
use Rattle.lines.proofs.Algebra.{within_from}
use Rattle.levels.specs.declared.BsdLevel.{BsdLevel}
use Rattle.levels.specs.declared.BsdLevel.TheVariants.{None as Lowest, Net}
use Rattle.levels.specs.Kinds.{code}
use Rattle.controller.specs.declared.fault.Raised.TheVariants.{New}
use Rattle.controller.specs.View.{Sound, set_pending, set_masked, set_in_service}
use Rattle.controller.proofs.Keeps.{blocked_sound}
use Rattle.spl.specs.declared.fault.LevelFault.{LevelFault}
use Rattle.spl.specs.Blocking.{Low}
use Rattle.spl.specs.Root.{root_level}
use Rattle.model.specs.Alone.{Act, Said, Acts, Leveled, leveled_told, over, LeveledSets, LeveledActs, Play, Played}
use Rattle.model.specs.Alone.Act.{raise, mask, take, end}
use Rattle.model.specs.Alone.Said.{new, none, line}
use Rattle.model.specs.Examples.{vectored, spl}
use Rattle.model.proofs.Orders.{vectored_sound}
use Rattle.model.proofs.Computed.{every, every_true, same_test, same_true, take_computed}
use Rattle.model.proofs.Alone.{plays, leaves, leaves_sound, only_told}

leveled_acts_told : (s t : Leveled) (c : Act) (a : Said) → LeveledActs s c a t → Acts (leveled_told s) c a (leveled_told t)
leveled_acts_told s t (raise n) a p = record { result = p.result; does = p.does.0; answers = p.answers }
leveled_acts_told s t (mask m) a p = record { result = p.result; does = p.does.0; answers = p.answers }
leveled_acts_told s t take a p = record { result = p.result; does = p.does.0; answers = p.answers }
leveled_acts_told s t end a p = record { result = p.result; does = p.does.0; answers = p.answers }

-- ---- the lines that net blocks: all but 0 to 4, 7, 8, 12 and 13

abbrev low_at_net : ℕ
low_at_net = 0xffff_ffff_ffff_ce60

abbrev over_net : ℕ → Bool
over_net n = ltb (code Net) (code (root_level n))

below_64 : every 64 (λ n. same_test (has low_at_net n) (has vectored.lines n && not (over_net n))) ≡ true
unfolding every has
below_64 = refl

low_is : Low vectored.lines over_net low_at_net
low_is n =
    elim (cases_lt n 64) [
      | inl l ↦ same_true (has low_at_net n) _ (every_true 64 (λ n. same_test (has low_at_net n) (has vectored.lines n && not (over_net n))) below_64 n l)
      | inr g ↦ not_has 64 low_at_net n (omega arith) g ∙ sym (ap (λ x. x && not (over_net n)) (not_has 64 vectored.lines n (omega arith) g))
    ]

low_once : (low : ℕ) → Low vectored.lines over_net low → low ≡ low_at_net
low_once low h = ext low low_at_net (λ n. h n ∙ sym (low_is n))

-- ---- the layer at net, by what is pending and in service

abbrev at : ℕ → ℕ → Leveled
at p i = record { below = set_in_service (set_masked (set_pending vectored p) low_at_net) i; level = Net; own = 0; low = low_at_net }

within : Within low_at_net vectored.lines
unfolding minus
within = within_from low_at_net vectored.lines refl

none_in : Within 0 vectored.lines
unfolding minus
none_in = within_from 0 vectored.lines refl

pub set_to_net : (s : Leveled) × LeveledSets Net (spl vectored) (Ok Lowest) s
unfolding union
set_to_net = (at 0 0, (((4, refl), refl, refl), refl, refl, record { mask = refl; own_in = none_in; low_are = low_is }))

-- there is no other way to set it
set_once : (r : Result BsdLevel LevelFault) (s : Leveled) → LeveledSets Net (spl vectored) r s → (r ≡ Ok Lowest) × (s ≡ at 0 0)
unfolding union
set_once (Err e) s ((q, x, y), o, b, k) = absurd (let z : ◌≡◌ {A = ℕ} 0 1 = cc in omega arith)
set_once (Ok a) s ((q, former, level), own, below, k) =
    let e : s.low ≡ low_at_net
    = low_once s.low (subst (λ l. Low vectored.lines (λ n. ltb (code l) (code (root_level n))) s.low) level (subst (λ v. Low v.lines (over s) s.low) below k.low_are)) in
    (ap Ok former, λ i. record { below = (below ∙ ap (λ l. set_masked vectored (union 0 l)) e) i; level = level i; own = own i; low = e i })

-- ---- the play

told_sound : Sound (leveled_told (at 0 0))
unfolding union
told_sound = blocked_sound vectored vectored_sound low_at_net within

under_sound : Sound (at 0 0).below
unfolding leaves minus
under_sound = leaves_sound vectored (mask low_at_net) vectored_sound

abbrev play : Play
play = (raise 5, new) ∷ (take, none) ∷ (raise 4, new) ∷ (take, line 4) ∷ []

first_raise : LeveledActs (at 0 0) (raise 5) new (at 0x20 0)
unfolding has union only
first_raise = record { result = Ok New; does = ((refl, refl, refl), (refl, refl, refl), (refl, refl, refl)); answers = refl }

told_2 : Sound (leveled_told (at 0x20 0))
unfolding leaves has union only
told_2 = leaves_sound (leveled_told (at 0 0)) (raise 5) told_sound

under_2 : Sound (at 0x20 0).below
unfolding leaves has union only
under_2 = leaves_sound (at 0 0).below (raise 5) under_sound

first_take : LeveledActs (at 0x20 0) take none (at 0x20 0)
unfolding leaves has union minus only
first_take =
    record { result = None; does = (take_computed (leveled_told (at 0x20 0)) told_2, (refl, refl, refl), take_computed (at 0x20 0).below under_2); answers = refl }

second_raise : LeveledActs (at 0x20 0) (raise 4) new (at 0x30 0)
unfolding has union only
second_raise = record { result = Ok New; does = ((refl, refl, refl), (refl, refl, refl), (refl, refl, refl)); answers = refl }

told_3 : Sound (leveled_told (at 0x30 0))
unfolding leaves has union only
told_3 = leaves_sound (leveled_told (at 0x20 0)) (raise 4) told_2

under_3 : Sound (at 0x30 0).below
unfolding leaves has union only
under_3 = leaves_sound (at 0x20 0).below (raise 4) under_2

second_take : LeveledActs (at 0x30 0) take (line 4) (at 0x20 0x10)
unfolding leaves has union minus only
second_take =
    record { result = Some 4; does = (take_computed (leveled_told (at 0x30 0)) told_3, (refl, refl, refl), take_computed (at 0x30 0).below under_3); answers = refl }

plays_at_net : Played LeveledActs (at 0 0) play (λ _. Unit {0})
unfolding plays has union minus only
plays_at_net =
    record {
      possible = (at 0x20 0x10, (at 0x20 0, first_raise, (at 0x20 0, first_take, (at 0x30 0, second_raise, (at 0x20 0x10, second_take, refl)))));
      only = only_told LeveledActs leveled_told leveled_acts_told (at 0 0) told_sound play refl;
      left = λ t p. tt;
    }

pub played_at_net : (r : Result BsdLevel LevelFault) (s : Leveled) → LeveledSets Net (spl vectored) r s
    → (r ≡ Ok Lowest) × Played LeveledActs s ((raise 5, new) ∷ (take, none) ∷ (raise 4, new) ∷ (take, line 4) ∷ []) (λ _. Unit {0})
played_at_net r s h =
    let e = set_once r s h in
    (e.0, subst (λ t. Played LeveledActs t play (λ _. Unit {0})) (sym e.1) plays_at_net)
