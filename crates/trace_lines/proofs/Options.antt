-- Where an option has a value.
use Rattle.std.proofs.Common.{◌≡◌, Bool, true, false, cond, ◌⊎◌, Some, None, Option, sym, refl, inl, inr}
use Rattle.std.proofs.lemmas.Option.{none-some}
use Rattle.std.specs.Option.{option_map}
use Rattle.trace_lines.specs.Forms.{both}

pub cond_some : {X : Type 0} (t : Bool) (o : Option X) (x : X) → cond t o None ≡ Some x → (t ≡ true) × (o ≡ Some x)
cond_some true o x e = (refl, e)
cond_some false o x e = absurd (none-some x e)

pub cond_none : {X : Type 0} (t : Bool) (x : X) → cond t (Some x) None ≡ None → t ≡ false
cond_none true x e = absurd (none-some x (sym e))
cond_none false x e = refl

pub cond_pick : {X : Type 0} (t : Bool) (o p : Option X) (x : X) → cond t o p ≡ Some x → ((t ≡ true) × (o ≡ Some x)) ⊎ (p ≡ Some x)
cond_pick true o p x e = inl (refl, e)
cond_pick false o p x e = inr e

pub mapped_some : {X Y : Type 0} (f : X → Y) (o : Option X) (y : Y) → option_map f o ≡ Some y → (x : X) × (o ≡ Some x) × (f x ≡ y)
mapped_some f None y e = absurd (none-some y e)
mapped_some f (Some x) y e = (x, refl, cc)

pub both_some : {X Y Z : Type 0} (f : X → Y → Z) (o : Option X) (p : Option Y) (z : Z) → both f o p ≡ Some z
    → (x : X) × (y : Y) × (o ≡ Some x) × (p ≡ Some y) × (f x y ≡ z)
both_some f None p z e = absurd (none-some z e)
both_some f (Some x) None z e = absurd (none-some z e)
both_some f (Some x) (Some y) z e = (x, y, refl, refl, cc)
