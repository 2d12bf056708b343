-- Views that tell the same and are ordered alike answer alike.
use Rattle.std.proofs.Common.{◌≡◌, ℕ, ◌≤◌, min, Bool, true, false, cond, Some, None, Ok, Err, Option, Result, sym, refl, ap, ◌∙◌, subst, subst₂, inl, inr, le_antisymm, arith}
use Rattle.std.proofs.lemmas.Bool.{cases_Bool, both_ways}
use Rattle.lines.specs.Sets.{has, union, minus, only, size, Within}
use Rattle.lines.proofs.Laws.{has_none}
use Rattle.lines.proofs.Sizes.{same_size, size_mono}
use Rattle.controller.specs.declared.fault.ControllerFault.{ControllerFault}
use Rattle.controller.specs.declared.fault.Raised.{Raised}
use Rattle.controller.specs.declared.fault.Raised.TheVariants.{New, Merged}
use Rattle.controller.specs.View.{View, Sound, First, Deliverable, Serving, ahead, set_pending, set_masked, set_blocked, set_in_service, raised, taken, ended}
use Rattle.controller.specs.Calls.{Raises, Masks, Takes, Ends}
use Rattle.controller.proofs.Order.{order_of}
use Rattle.controller.proofs.Keeps.{raises_sound, masks_sound, takes_sound, ends_sound}
use Rattle.model.specs.Arrivals.{Arrivals, SetOf}
use Rattle.model.specs.Run.{OrderedAlike}

-- the view with other sets
abbrev pub with_sets : View → ℕ → ℕ → ℕ → ℕ → View
with_sets v p m b s = set_in_service (set_blocked (set_masked (set_pending v p) m) b) s

-- two sound views that tell the same and are ordered alike
pub record Alike (v w : View) : Type 0 where
  pub order : OrderedAlike v w
  pub sound : Sound v
  pub sound' : Sound w
  pub pending : v.pending ≡ w.pending
  pub masked : v.masked ≡ w.masked
  pub blocked : v.blocked ≡ w.blocked
  pub in_service : v.in_service ≡ w.in_service

-- a call by its relation R: alike before, it gives the same result and leaves alike
abbrev pub Respects : {S X : Type 0} → (S → S → Type 0) → (S → X → S → Type 0) → Type 0
Respects {S} {X} Like R = (s t s' t' : S) (r q : X) → Like s t → R s r s' → R t q t' → (r ≡ q) × Like s' t'

moved : {s t : ℕ} (n : ℕ) (b : Bool) → s ≡ t → has s n ≡ b → has t n ≡ b
moved n b e h = sym (ap (λ x. has x n) e) ∙ h

pub alike_sym : {v w : View} → Alike v w → Alike w v
alike_sym {v} {w} l =
    record {
      order = record {
        lines = sym l.order.lines;
        levels = λ a b x y. sym (l.order.levels a b (in_v a x) (in_v b y));
        ties = λ a b x y. sym (l.order.ties a b (in_v a x) (in_v b y));
      };
      sound = l.sound';
      sound' = l.sound;
      pending = sym l.pending;
      masked = sym l.masked;
      blocked = sym l.blocked;
      in_service = sym l.in_service;
    }
  where
    in_v : (n : ℕ) → has w.lines n ≡ true → has v.lines n ≡ true
    in_v n h = moved n true (sym l.order.lines) h

pub self_alike : (v : View) → Sound v → Alike v v
self_alike v o =
    record {
      order = record { lines = refl; levels = λ a b x y. refl; ties = λ a b x y. refl };
      sound = o;
      sound' = o;
      pending = refl;
      masked = refl;
      blocked = refl;
      in_service = refl;
    }

pub serving_alike : {v w : View} → Alike v w → (n : ℕ) → Serving v n → Serving w n
serving_alike l n h = moved n true l.in_service h

-- a deliverable line and a line in service are lines of the controller
pub line_of : {v : View} → Sound v → (n : ℕ) → Deliverable v n → has v.lines n ≡ true
line_of o n d = o.pending_in n d.pends

pub deliverable_alike : {v w : View} → Alike v w → (n : ℕ) → Deliverable v n → Deliverable w n
deliverable_alike l n d =
    record {
      pends = moved n true l.pending d.pends;
      unmasked = moved n false l.masked d.unmasked;
      unblocked = moved n false l.blocked d.unblocked;
      over = λ k s.
          let t = serving_alike (alike_sym l) k s in
          sym (l.order.levels n k (line_of l.sound n d) (l.sound.service_in k t)) ∙ d.over k t;
    }

-- the first of the same lines is the same
pub first_alike : {v w : View} → Alike v w → (P Q : ℕ → Type 0) → ((n : ℕ) → P n → Q n) → ((n : ℕ) → Q n → P n) → ((n : ℕ) → P n → has v.lines n ≡ true)
    → (n i : ℕ) → First (ahead v) P n → First (ahead w) Q i → n ≡ i
first_alike {v} {w} l P Q to from line n i f g =
    let pi : P i = from i g.one in
    (order_of v l.sound).connected n i (l.order.ties n i (line n f.one) (line i pi) ∙ g.before n (to n f.one)) (f.before i pi)

-- with other sets, the same on both sides
pub alike_sets : {v w : View} → Alike v w → {a a' b b' c c' d d' : ℕ} → a ≡ a' → b ≡ b' → c ≡ c' → d ≡ d'
    → Sound (with_sets v a b c d) → Sound (with_sets w a' b' c' d') → Alike (with_sets v a b c d) (with_sets w a' b' c' d')
alike_sets l ea eb ec ed o o' =
    record {
      order = record { lines = l.order.lines; levels = l.order.levels; ties = l.order.ties };
      sound = o;
      sound' = o';
      pending = ea;
      masked = eb;
      blocked = ec;
      in_service = ed;
    }

-- ---- the calls of a controller

pub raises_alike : (n : ℕ) → Respects Alike (λ v. Raises v n)
raises_alike n v w v' w' (Ok a) (Ok b) l h k = (
  ap Ok (h.1 ∙ ap (λ x. cond (has x n) Merged New) l.pending ∙ sym k.1),
  subst₂ Alike (sym h.2) (sym k.2) (alike_sets l (ap (λ x. union x (only n)) l.pending) l.masked l.blocked l.in_service
      (raises_sound v l.sound n (Ok a) (raised v n) (h.0, h.1, refl)) (raises_sound w l.sound' n (Ok b) (raised w n) (k.0, k.1, refl))),
)
raises_alike n v w v' w' (Ok a) (Err e) l h k = absurd (both_ways _ k.0 (moved n true l.order.lines h.0))
raises_alike n v w v' w' (Err d) (Ok b) l h k = absurd (both_ways _ (moved n false l.order.lines h.0) k.0)
raises_alike n v w v' w' (Err d) (Err e) l h k = (ap Err (h.1 ∙ sym k.1), subst₂ Alike (sym h.2) (sym k.2) l)

pub masks_alike : (s : ℕ) → Respects Alike (λ v. Masks v s)
masks_alike s v w v' w' (Ok a) (Ok b) l h k = (
  refl,
  subst₂ Alike (sym h.1) (sym k.1) (alike_sets l l.pending refl l.blocked l.in_service
      (masks_sound v l.sound s (Ok a) (set_masked v s) (h.0, refl)) (masks_sound w l.sound' s (Ok b) (set_masked w s) (k.0, refl))),
)
masks_alike s v w v' w' (Ok a) (Err e) l h k = absurd (k.0 (subst (Within s) l.order.lines h.0))
masks_alike s v w v' w' (Err d) (Ok b) l h k = absurd (h.0 (subst (Within s) (sym l.order.lines) k.0))
masks_alike s v w v' w' (Err d) (Err e) l h k = (ap Err (h.1 ∙ sym k.1), subst₂ Alike (sym h.2) (sym k.2) l)

taken_alike : {v w : View} → Alike v w → (n : ℕ) → Takes v (Some n) (taken v n) → Takes w (Some n) (taken w n) → Alike (taken v n) (taken w n)
taken_alike {v} {w} l n h k =
    alike_sets l (ap (λ x. minus x (only n)) l.pending) l.masked l.blocked (ap (λ x. union x (only n)) l.in_service)
    (takes_sound v l.sound (Some n) (taken v n) h) (takes_sound w l.sound' (Some n) (taken w n) k)

pub takes_alike : Respects Alike Takes
takes_alike v w v' w' None None l h k = (refl, subst₂ Alike (sym h.1) (sym k.1) l)
takes_alike v w v' w' None (Some i) l h k = absurd (h.0 i (deliverable_alike (alike_sym l) i k.0.one))
takes_alike v w v' w' (Some n) None l h k = absurd (k.0 n (deliverable_alike l n h.0.one))
takes_alike v w v' w' (Some n) (Some i) l h k =
    let e : n ≡ i = first_alike l (Deliverable v) (Deliverable w) (deliverable_alike l) (deliverable_alike (alike_sym l)) (line_of l.sound) n i h.0 k.0 in
    let f : First (ahead w) (Deliverable w) n = subst (First (ahead w) (Deliverable w)) (sym e) k.0 in
    (ap Some e, subst₂ Alike (sym h.1) (ap (taken w) e ∙ sym k.1) (taken_alike l n (h.0, refl) (f, refl)))

ended_alike : {v w : View} → Alike v w → (n : ℕ) → Ends v (Ok n) (ended v n) → Ends w (Ok n) (ended w n) → Alike (ended v n) (ended w n)
ended_alike {v} {w} l n h k =
    alike_sets l l.pending l.masked l.blocked (ap (λ x. minus x (only n)) l.in_service)
    (ends_sound v l.sound (Ok n) (ended v n) h) (ends_sound w l.sound' (Ok n) (ended w n) k)

pub none_serving : (v : View) → v.in_service ≡ 0 → (n : ℕ) → Serving v n → ⊥
none_serving v e n h = both_ways _ (has_none n) (moved n true e h)

pub ends_alike : Respects Alike Ends
ends_alike v w v' w' (Ok n) (Ok i) l h k =
    let e : n ≡ i = first_alike l (Serving v) (Serving w) (serving_alike l) (serving_alike (alike_sym l)) l.sound.service_in n i h.0 k.0 in
    let f : First (ahead w) (Serving w) n = subst (First (ahead w) (Serving w)) (sym e) k.0 in
    (ap Ok e, subst₂ Alike (sym h.1) (ap (ended w) e ∙ sym k.1) (ended_alike l n (h.0, refl) (f, refl)))
ends_alike v w v' w' (Ok n) (Err e) l h k = absurd (none_serving w k.0 n (serving_alike l n h.0.one))
ends_alike v w v' w' (Err d) (Ok i) l h k = absurd (none_serving v h.0 i (serving_alike (alike_sym l) i k.0.one))
ends_alike v w v' w' (Err d) (Err e) l h k = (ap Err (h.1 ∙ sym k.1), subst₂ Alike (sym h.2) (sym k.2) l)

-- ---- they leave the lines and what is blocked, and only a raise and a take change what is pending

pub record Fixed (v w : View) : Type 0 where
  pub lines : w.lines ≡ v.lines
  pub blocked : w.blocked ≡ v.blocked

same_fixed : {v w : View} → w ≡ v → Fixed v w
same_fixed e = record { lines = ap (λ x. x.lines) e; blocked = ap (λ x. x.blocked) e }

pub raises_fixed : (n : ℕ) (v w : View) (r : Result Raised ControllerFault) → Raises v n r w → Fixed v w
raises_fixed n v w (Ok a) h = record { lines = ap (λ x. x.lines) h.2; blocked = ap (λ x. x.blocked) h.2 }
raises_fixed n v w (Err e) h = same_fixed h.2

pub masks_fixed : (s : ℕ) (v w : View) (r : Result (Unit {0}) ControllerFault) → Masks v s r w → Fixed v w
masks_fixed s v w (Ok a) h = record { lines = ap (λ x. x.lines) h.1; blocked = ap (λ x. x.blocked) h.1 }
masks_fixed s v w (Err e) h = same_fixed h.2

pub takes_fixed : (v w : View) (r : Option ℕ) → Takes v r w → Fixed v w
takes_fixed v w None h = same_fixed h.1
takes_fixed v w (Some n) h = record { lines = ap (λ x. x.lines) h.1; blocked = ap (λ x. x.blocked) h.1 }

pub ends_fixed : (v w : View) (r : Result ℕ ControllerFault) → Ends v r w → Fixed v w
ends_fixed v w (Ok n) h = record { lines = ap (λ x. x.lines) h.1; blocked = ap (λ x. x.blocked) h.1 }
ends_fixed v w (Err e) h = same_fixed h.2

pub masks_pending : (s : ℕ) (v w : View) (r : Result (Unit {0}) ControllerFault) → Masks v s r w → w.pending ≡ v.pending
masks_pending s v w (Ok a) h = ap (λ x. x.pending) h.1
masks_pending s v w (Err e) h = ap (λ x. x.pending) h.2

pub ends_pending : (v w : View) (r : Result ℕ ControllerFault) → Ends v r w → w.pending ≡ v.pending
ends_pending v w (Ok n) h = ap (λ x. x.pending) h.1
ends_pending v w (Err e) h = ap (λ x. x.pending) h.2

-- ---- the first n lines

module _ {v w : View} (l : Alike v w) (c s t : ℕ) (f : Arrivals v c s) (g : Arrivals w c t) where
  to_t : ((k : ℕ) → Deliverable w k → has t k ≡ true) → Within s t
  to_t all n h = all n (deliverable_alike l n (f.front.ready n h))

  to_s : ((k : ℕ) → Deliverable v k → has s k ≡ true) → Within t s
  to_s all n h = all n (deliverable_alike (alike_sym l) n (g.front.ready n h))

  sizes : size s ≡ size t
  sizes =
      elim f.enough [
        | inl p ↦ elim g.enough [ inl q ↦ p ∙ sym q | inr q ↦ le_antisymm (size_mono s t (to_t q)) (subst (λ x. size t ≤ x) (sym p) g.most) ]
        | inr p ↦ elim g.enough [
          | inl q ↦ le_antisymm (subst (λ x. size s ≤ x) (sym q) f.most) (size_mono t s (to_s p))
          | inr q ↦ le_antisymm (size_mono s t (to_t q)) (size_mono t s (to_s p))
        ]
      ]

  -- no line of s alone and line of t alone, for neither would go before the other
  crossed : (a b : ℕ) → has s a ≡ true → has t a ≡ false → has t b ≡ true → has s b ≡ false → ⊥
  crossed a b sa ta tb sb =
      let da = f.front.ready a sa in
      let db = deliverable_alike (alike_sym l) b (g.front.ready b tb) in
      let e : a ≡ b
      = (order_of v l.sound).connected a b
      (l.order.ties a b (line_of l.sound a da) (line_of l.sound b db) ∙ g.front.before b a tb (deliverable_alike l a da) ta)
      (f.front.before a b sa db sb) in
      both_ways _ ta (subst (λ x. has t x ≡ true) (sym e) tb)

  inside : Within s t
  inside n h =
      elim (cases_Bool (has t n)) [
        | inl e ↦ e
        | inr e ↦
            let back : Within t s = λ b tb. elim (cases_Bool (has s b)) [ inl k ↦ k | inr k ↦ absurd (crossed n b h e tb k) ] in
            ap (λ x. has x n) (same_size t s back (sym sizes)) ∙ h
      ]

  pub arrivals_alike : s ≡ t
  arrivals_alike = same_size s t inside sizes

pub counted : (v : View) (n s u : ℕ) → Arrivals v n s → SetOf (Deliverable v) u → size s ≡ min n (size u)
counted v n s u f o =
    let small : size s ≤ size u = size_mono s u (λ k h. o.every k (f.front.ready k h)) in
    let most : size s ≤ n = f.most in
    elim f.enough [
      | inl p ↦ omega arith
      | inr p ↦ let large : size u ≤ size s = size_mono u s (λ k h. p k (o.each k h)) in omega arith
    ]
