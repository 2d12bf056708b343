-- A level that has no code is refused, and nothing changes.
use Rattle.std.proofs.Common.{◌≡◌, ℕ, Bool, false, Some, None, Ok, Err, Option, Result, refl}
use Rattle.std.proofs.Props.{props}
use Rattle.std.proofs.lemmas.Bool.{both_ways}
use Rattle.std.specs.Option.{is_some}
use Rattle.std.specs.Result.{IsErr}
use Rattle.levels.specs.declared.Level as level
use Rattle.controller.specs.declared.interface.Controller as controller
use Rattle.controller.specs.View.{View}
use Rattle.spl.specs.declared.fault.LevelFault.{LevelFault}
use Rattle.spl.specs.declared.fault.LevelFault.TheVariants.{NoSuchLevel}
use Rattle.spl.specs.declared.policy.Policy as policy
use Rattle.spl.specs.declared.layer.Spl.{Spl}
use Rattle.spl.specs.Blocking.{Blocking}
use Rattle.spl.specs.Codes.{Settable, SetsLevel, settable_prop}

no_code : (o : Option ℕ) → false ≡ is_some o → o ≡ None
no_code None e = refl
no_code (Some c) e = absurd (both_ways _ refl e)

module _ {K : Type 0} (codes : K → Option ℕ) (level given : K) (unchanged : Type 0) where
  pub refused : (r : Result K LevelFault) → IsErr r → false ≡ is_some (codes given) → unchanged → SetsLevel codes level given r level unchanged
  refused (Err NoSuchLevel) i n u = (no_code _ n, refl, u)
  refused (Ok a) i n u = absurd (both_ways _ refl i)

blocking_prop : (v : View) (above : ℕ → Bool) (own low : ℕ) → IsProp (Blocking v above own low)
blocking_prop v above own low = hlevel props

-- a layer with the same fields is the same layer
module _ {P C K L : Type 0} {p : policy.Ghosts P K} {k : level.Ghosts K} {c : controller.Ghosts C L} {l : level.Ghosts L} where
  pub as_it_was : (s : Spl P C K L p k c l) (b : Blocking (c.view s.below) (λ n. k.above (p.levels s.policy n) s.level) s.own.bits s.low.bits) (e : Settable (p.codes s.policy) s.level)
      → ◌≡◌ {A = Spl P C K L p k c l} (record { policy = s.policy; below = s.below; level = s.level; own = s.own; low = s.low; blocking = b; settable = e }) s
  as_it_was s b e =
      λ i. record {
        policy = s.policy;
        below = s.below;
        level = s.level;
        own = s.own;
        low = s.low;
        blocking = blocking_prop _ _ _ _ b s.blocking i;
        settable = settable_prop (p.codes s.policy) s.level e s.settable i;
      }
