use Rattle.std.proofs.Common.{sym, refl, ap, ◌∙◌, subst}
use Rattle.lines.specs.Sets.{Within}
use Rattle.lines.proofs.Algebra.{within_from, from_within}
use Rattle.std.proofs.lemmas.Bool.{both_ways}
use Rattle.optimistic.specs.Logged.{freed_in, freed_some, freed_none, rest_all, part_in, kept_consistent, mask_told, mask_consistent}
use Rattle.optimistic.proofs.layer.OptimisticController.mask.Goals as goal
use Rattle.optimistic.proofs.layer.OptimisticController.mask.Goals.{then-not-is_empty, else-not-is_empty}

pub returns-then-not-is_within : goal.returns-then-not-is_within
returns-then-not-is_within g c =
    let out : Within c.args.set.bits (g.C.Controller.view c.args.self.now.below).lines → ⊥ = λ h. absurd (both_ways _ refl (c.if-not-is_within.ensures.1 (rw c.lines.ensures h))) in
    record {
      fixed = refl;
      leaves = (out, refl, refl);
      frees = (out, refl, refl);
      untouched = λ h. refl;
    }

pub write_log-requires : goal.write_log-requires
write_log-requires g c = rw c.common.ensures (part_in _ _ _ c.args.self.now.logging.inside)

pub raise_again-requires : goal.raise_again-requires
raise_again-requires g c =
    let s = c.args.self.now in
    let v = g.C.Controller.view s.below in
    let l : Within c.args.set.bits v.lines = subst (Within c.args.set.bits) c.lines.ensures (c.if-not-is_within.ensures.0 refl) in
    let m = rw c.common.ensures at c.write_log.ensures.under in
    rw c.freed_by-freed.ensures (freed_in v s.soft.bits s.log.bits c.args.set.bits s.logging l c.write_log.result _ m)

pub invariant_of-self : goal.invariant_of-self
invariant_of-self g c =
    let s = c.args.self.now in
    let set = c.args.set.bits in
    let log = s.log.bits in
    let v = g.C.Controller.view s.below in
    let l : Within set v.lines = subst (Within set) c.lines.ensures (c.if-not-is_within.ensures.0 refl) in
    elim c.if-not-is_empty.branch [
      | then-not-is_empty w ↦
          let m = rw w.common.ensures at w.write_log.ensures.under in
          let u = rw c.freed_by-freed.ensures at w.raise_again.ensures.under in
          let e = freed_some v s.soft.bits log set s.logging l w.write_log.result _ _ m u in
          let k = ap (λ z. z.bits) (w.raise_again.ensures.log ∙ w.write_log.ensures.log) ∙ w.common.ensures in
          rw (w.self-is, k) (record { logging = mask_consistent v s.soft.bits log set s.logging l _ e })
      | else-not-is_empty w ↦
          let n = within_from log set (sym c.freed_by-freed.ensures ∙ w.if-not-is_empty.ensures.0 refl) in
          rw w.self-is (record { logging = kept_consistent v s.soft.bits log set s.logging l n })
    ]

pub returns : goal.returns
returns g c =
    let s = c.args.self.now in
    let set = c.args.set.bits in
    let log = s.log.bits in
    let v = g.C.Controller.view s.below in
    let l : Within set v.lines = subst (Within set) c.lines.ensures (c.if-not-is_within.ensures.0 refl) in
    elim c.if-not-is_empty.branch [
      | then-not-is_empty w ↦
          let m = rw w.common.ensures at w.write_log.ensures.under in
          let u = rw c.freed_by-freed.ensures at w.raise_again.ensures.under in
          let e = freed_some v s.soft.bits log set s.logging l w.write_log.result _ _ m u in
          let k = ap (λ z. z.bits) (w.raise_again.ensures.log ∙ w.write_log.ensures.log) ∙ w.common.ensures in
          rw (w.self-is, k) (record {
            fixed = w.raise_again.ensures.fixed ∙ w.write_log.ensures.fixed;
            leaves = (l, mask_told v s.soft.bits log set s.logging l _ e);
            frees = (l, refl, refl, e);
            untouched = λ h. absurd (both_ways _ refl (w.if-not-is_empty.ensures.1 (c.freed_by-freed.ensures ∙ from_within log set h)));
          })
      | else-not-is_empty w ↦
          let n = within_from log set (sym c.freed_by-freed.ensures ∙ w.if-not-is_empty.ensures.0 refl) in
          let e = freed_none v s.soft.bits log set s.logging l n in
          let k = rest_all v s.soft.bits log set s.logging l n in
          rw w.self-is (record {
            fixed = refl;
            leaves = (l, refl);
            frees = (l, refl, k, e);
            untouched = λ h. refl;
          })
    ]
