-- That what a value of the cabinet's types keeps has one proof at most.
use Rattle.std.proofs.Common.{◌≡◌, ℕ, ◌<◌, Bool, true, false, Option}
use mathlib.Core.HLevel.{Π_prop, →_prop}
use native.Mathlib.Nat.{ℕ_set}
use denote.Struct.Props.{props}
use Rattle.lines.specs.Sets.{has, Within}
use Rattle.controller.specs.View.{View, WeakOrder, Sound, Serving}
use Rattle.optimistic.specs.Logging.{Logging}
use Rattle.spl.specs.Blocking.{Blocking, Low}
use Rattle.spl.specs.Codes.{Settable, settable_prop}

weak_order : (above : ℕ → ℕ → Bool) → IsProp (WeakOrder above)
weak_order above x y =
    let p : IsProp ((a b : ℕ) → above a b ≡ true → above b a ≡ false) = hlevel props in
    let q : IsProp ((a b c : ℕ) → above a b ≡ true → above b c ≡ true → above a c ≡ true) = hlevel props in
    let r : IsProp ((a b c : ℕ) → above a b ≡ false → above b c ≡ false → above a c ≡ false) = hlevel props in
    λ i. record { asymmetric = p x.asymmetric y.asymmetric i; transitive = q x.transitive y.transitive i; not_above = r x.not_above y.not_above i }

within : (s t : ℕ) → IsProp (Within s t)
within s t = hlevel props

pub sound : (v : View) → IsProp (Sound v)
sound v x y =
    let p : IsProp ((n : ℕ) → has v.lines n ≡ true → n < 64) = hlevel props in
    let q : IsProp (v.lines ≡ 0 → ⊥) = hlevel props in
    let r : IsProp ((a b : ℕ) → Serving v a → Serving v b → v.above a b ≡ false → v.above b a ≡ false → a ≡ b) = Π_prop (λ a. Π_prop (λ b. →_prop (→_prop (→_prop (→_prop (ℕ_set a b)))))) in
    λ i. record {
      order = weak_order v.above x.order y.order i;
      small = p x.small y.small i;
      some = q x.some y.some i;
      pending_in = within v.pending v.lines x.pending_in y.pending_in i;
      masked_in = within v.masked v.lines x.masked_in y.masked_in i;
      blocked_in = within v.blocked v.lines x.blocked_in y.blocked_in i;
      service_in = within v.in_service v.lines x.service_in y.service_in i;
      distinct = r x.distinct y.distinct i;
    }

pub logging : (v : View) (soft log : ℕ) → IsProp (Logging v soft log)
logging v soft log x y =
    λ i. record {
      mask = ℕ_set _ _ x.mask y.mask i;
      inside = within log soft x.inside y.inside i;
      soft_in = within soft v.lines x.soft_in y.soft_in i;
    }

pub blocking : (v : View) (above : ℕ → Bool) (own low : ℕ) → IsProp (Blocking v above own low)
blocking v above own low x y =
    let p : IsProp (Low v.lines above low) = hlevel props in
    λ i. record {
      mask = ℕ_set _ _ x.mask y.mask i;
      own_in = within own v.lines x.own_in y.own_in i;
      low_are = p x.low_are y.low_are i;
    }

pub settable : {K : Type 0} (codes : K → Option ℕ) (l : K) → IsProp (Settable codes l)
settable codes l = settable_prop codes l
