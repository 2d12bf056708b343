-- The order of lines by level and number.
use Rattle.std.proofs.Common.{◌≡◌, ℕ, ◌≤◌, Bool, true, false, not, ◌&&◌, ◌||◌, ltb, ◌⊎◌, sym, refl, ◌∙◌, subst, inl, inr, ⊎_elim, arith}
use Rattle.std.proofs.lemmas.Bool.Decides.{nat_tests}
use Rattle.std.proofs.lemmas.Bool.{both_ways, ltb-false, le-ltb}
use Rattle.controller.specs.View.{View, WeakOrder, Sound, ahead, ahead_by, First}

-- lines that have levels of a kind are ordered by them
module _ {L : Type 0} (over : L → L → Bool)
    (asymmetric : (a b : L) → over a b ≡ true → over b a ≡ false)
    (connected : (a b : L) → over a b ≡ false → over b a ≡ false → a ≡ b)
    (transitive : (a b c : L) → over a b ≡ true → over b c ≡ true → over a c ≡ true)
    (rank : ℕ → L) where
  level_step : (a b c : L) (x y : Bool) → over b a ≡ x → over c b ≡ y → over a b ≡ false → over b c ≡ false → over a c ≡ false
  level_step a b c true true p q f h = asymmetric c a (transitive c b a q p)
  level_step a b c true false p q f h = let e = connected b c h q in subst (λ z. over a z ≡ false) e f
  level_step a b c false y p q f h = let e = connected a b f p in subst (λ z. over z c ≡ false) (sym e) h

  pub weak_of : (above : ℕ → ℕ → Bool) → ((a b : ℕ) → above a b ≡ over (rank a) (rank b)) → WeakOrder above
  weak_of above e = record {
    asymmetric = λ a b h. e b a ∙ asymmetric (rank a) (rank b) (sym (e a b) ∙ h);
    transitive = λ a b c h k. e a c ∙ transitive (rank a) (rank b) (rank c) (sym (e a b) ∙ h) (sym (e b c) ∙ k);
    not_above = λ a b c h k. e a c ∙ level_step (rank a) (rank b) (rank c) _ _ refl refl (sym (e a b) ∙ h) (sym (e b c) ∙ k);
  }

-- what "ahead" says
parts : (x y t : Bool) → (x || (not y && t)) ≡ false → (x ≡ false) × ((y ≡ true) ⊎ (t ≡ false))
parts x true t h = (grind arith, inl refl)
parts true false t h = absurd (both_ways _ h refl)
parts false false t h = (refl, inr h)

whole : (x y t : Bool) → x ≡ false → (y ≡ true) ⊎ (t ≡ false) → (x || (not y && t)) ≡ false
whole x y t f (inl h) = rw (f, h) refl
whole x true t f (inr h) = rw f refl
whole x false t f (inr h) = rw (f, h) refl

module _ (above : ℕ → ℕ → Bool) where
  pub ahead_not : (a b : ℕ) → ahead_by above a b ≡ false → (above a b ≡ false) × ((above b a ≡ true) ⊎ (a ≤ b))
  ahead_not a b h =
      let p = parts (above a b) (above b a) (ltb b a) h in
      (p.0, ⊎_elim inl (λ e. inr (ltb-false b a e)) p.1)

  pub not_ahead : (a b : ℕ) → above a b ≡ false → (above b a ≡ true) ⊎ (a ≤ b) → ahead_by above a b ≡ false
  not_ahead a b f h = whole (above a b) (above b a) (ltb b a) f (⊎_elim inl (λ l. inr (le-ltb b a l)) h)

  pub ahead_self : (a : ℕ) → above a a ≡ false → ahead_by above a a ≡ false
  ahead_self a h = not_ahead a a h (inr (omega arith))

module _ (above : ℕ → ℕ → Bool) (w : WeakOrder above) where
  pub not_self : (a : ℕ) (x : Bool) → above a a ≡ x → above a a ≡ false
  not_self a true e = w.asymmetric a a e
  not_self a false e = e

  -- two lines neither of which is ahead are one line
  pub ahead_same : (a b : ℕ) → ahead_by above a b ≡ false → ahead_by above b a ≡ false → a ≡ b
  ahead_same a b h k =
      let p = ahead_not above a b h in
      let q = ahead_not above b a k in
      elim p.1 [
        | inl x ↦ absurd (both_ways _ q.0 x)
        | inr l ↦ elim q.1 [ inl x ↦ absurd (both_ways _ p.0 x) | inr m ↦ omega arith ]
      ]

  -- "not ahead" carries through
  behind_at : (a b c : ℕ) (x : Bool) → above c a ≡ x → ahead_by above a b ≡ false → ahead_by above b c ≡ false → (above c a ≡ true) ⊎ (a ≤ c)
  behind_at a b c true e h k = inl e
  behind_at a b c false e h k =
      let p = ahead_not above a b h in
      let q = ahead_not above b c k in
      elim p.1 [
        | inl x ↦ absurd (both_ways _ (w.not_above b c a q.0 e) x)
        | inr l ↦ elim q.1 [ inl x ↦ absurd (both_ways _ (w.not_above c a b e p.0) x) | inr m ↦ inr (omega arith) ]
      ]

  pub behind : (a b c : ℕ) → ahead_by above a b ≡ false → ahead_by above b c ≡ false → ahead_by above a c ≡ false
  behind a b c h k =
      not_ahead above a c (w.not_above a b c (ahead_not above a b h).0 (ahead_not above b c k).0) (behind_at a b c _ refl h k)

  pub above_not : (a b : ℕ) → above b a ≡ true → ahead_by above a b ≡ false
  above_not a b h = not_ahead above a b (w.asymmetric b a h) (inl h)

-- the order of a controller's lines, as "first" uses it
pub record LineOrder (goes above : ℕ → ℕ → Bool) : Type 0 where
  pub irreflexive : (a : ℕ) → goes a a ≡ false
  pub asymmetric : (a b : ℕ) → goes a b ≡ true → goes b a ≡ false
  pub connected : (a b : ℕ) → goes a b ≡ false → goes b a ≡ false → a ≡ b
  pub behind : (a b c : ℕ) → goes a b ≡ false → goes b c ≡ false → goes a c ≡ false
  pub lower : (a b : ℕ) → above b a ≡ true → goes a b ≡ false
  pub not_self : (a : ℕ) → above a a ≡ false

-- of two lines one is ahead at most
one_way : (above : ℕ → ℕ → Bool) → WeakOrder above → (a b : ℕ) (x : Bool) → ahead_by above b a ≡ x → ahead_by above a b ≡ true → ahead_by above b a ≡ false
one_way above w a b false e h = e
one_way above w a b true e h = absurd (both_ways _ (clash (above a b) (above b a) (w.asymmetric a b) (w.asymmetric b a) h e) h) where
  clash : (x y : Bool) → (x ≡ true → y ≡ false) → (y ≡ true → x ≡ false) → (x || (not y && ltb b a)) ≡ true → (y || (not x && ltb a b)) ≡ true → (x || (not y && ltb b a)) ≡ false
  clash true true p q h k = absurd (both_ways _ (p refl) refl)
  clash true false p q h k = absurd (both_ways _ refl k)
  clash false true p q h k = absurd (both_ways _ refl h)
  clash false false p q h k = grind (arith, nat_tests)

pub order_by : (above : ℕ → ℕ → Bool) → WeakOrder above → LineOrder (ahead_by above) above
order_by above w =
    record {
      irreflexive = λ a. ahead_self above a (not_self above w a _ refl);
      asymmetric = λ a b. one_way above w a b _ refl;
      connected = ahead_same above w;
      behind = behind above w;
      lower = above_not above w;
      not_self = λ a. not_self above w a _ refl;
    }

pub order_of : (v : View) → Sound v → LineOrder (ahead v) v.above
order_of v o = order_by v.above o.order

-- the first of some lines is one line
pub first_same : {P : ℕ → Type 0} (goes above : ℕ → ℕ → Bool) → LineOrder goes above → (a b : ℕ) → First goes P a → First goes P b → a ≡ b
first_same goes above o a b f g = o.connected a b (g.before a f.one) (f.before b g.one)
