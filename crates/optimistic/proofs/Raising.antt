-- Raising the lines of a set one after another.
use Rattle.std.proofs.Common.{◌≡◌, ℕ, true, Ok, Err, Result, sym, refl, ap, ◌∙◌, subst}
use Rattle.std.proofs.lemmas.Bool.{both_ways}
use Rattle.lines.specs.Sets.{has, union, minus, only, Within}
use Rattle.lines.proofs.Algebra.{moved, union_none}
use Rattle.controller.specs.declared.fault.ControllerFault.{ControllerFault}
use Rattle.controller.specs.declared.fault.Raised.{Raised}
use Rattle.controller.specs.View.{View, set_pending, raised}
use Rattle.controller.specs.Calls.{Raises}
use Rattle.controller.proofs.Keeps.{in_less}

-- of the set, `rest` has still to be raised
pub record Raising (v₀ v : View) (set rest : ℕ) : Type 0 where
  pub view : v ≡ set_pending v₀ v.pending
  pub sum : union v.pending rest ≡ union v₀.pending set
  pub inside : Within rest set

pub raising_none : (v : View) (set : ℕ) → Raising v v set set
raising_none v set = record { view = refl; sum = refl; inside = λ n h. h }

module _ (v₀ v : View) (set rest k : ℕ) (i : Raising v₀ v set rest) (t : has rest k ≡ true) where
  stepped : Raising v₀ (raised v k) set (minus rest (only k))
  stepped =
      record {
        view = ap (λ u. set_pending u (union v.pending (only k))) i.view;
        sum = moved v.pending rest k t ∙ i.sum;
        inside = λ n h. i.inside n (in_less rest (only k) n h);
      }

  pub raising_more : Within set v₀.lines → (r : Result Raised ControllerFault) (w : View) → Raises v k r w → Raising v₀ w set (minus rest (only k))
  raising_more o (Ok a) w h = subst (λ u. Raising v₀ u set (minus rest (only k))) (sym h.2) stepped
  raising_more o (Err e) w h =
      absurd (both_ways _ h.0 (subst (λ u. has u.lines k ≡ true) (sym i.view) (o k (i.inside k t))))

pub raising_all : (v₀ v : View) (set rest : ℕ) → rest ≡ 0 → Raising v₀ v set rest → v ≡ set_pending v₀ (union v₀.pending set)
raising_all v₀ v set rest z i =
    i.view ∙ ap (set_pending v₀) (sym (union_none v.pending) ∙ ap (union v.pending) (sym z) ∙ i.sum)
