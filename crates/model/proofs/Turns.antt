-- Requests come and go in turn, at every place and for every line.
use Rattle.std.proofs.Common.{◌≡◌, ℕ, Bool, true, false, cond, not, ◌&&◌, ◌||◌, eqb, List, [], ◌∷◌, Some, None, Ok, Err, Option, Result, sym, refl, ap, ◌∙◌, subst, subst₂, inl, inr}
use Rattle.std.proofs.lemmas.Bool.{eqb-true, false≢true}
use Rattle.lines.specs.Sets.{has, common, only}
use Rattle.lines.proofs.Laws.{has-union, has-common, has-minus, has-only, has_none}
use Rattle.controller.specs.declared.fault.ControllerFault.{ControllerFault}
use Rattle.controller.specs.declared.fault.Raised.{Raised}
use Rattle.controller.specs.View.{View}
use Rattle.controller.specs.Calls.{Raises, Takes}
use Rattle.model.specs.declared.calls.Kernel.{Kernel}
use Rattle.model.specs.declared.calls.Place.{Place}
use Rattle.model.specs.declared.calls.Place.TheVariants.{Hardware as hardware, Kernel as kernel}
use Rattle.model.specs.declared.calls.Call.{Call}
use Rattle.model.specs.declared.calls.Call.TheVariants.{Raise as raise, MaskHardware as mask_hardware, Pump as pump, Next as next, To as to, Ask as ask}
use Rattle.model.specs.Stage.{StageModel, told}
use Rattle.model.specs.Machine.{MachineModel, same, routed, taken_up, with_stage, view, Pumps, raise_says, pump_says, Step, Reply}
use Rattle.model.specs.Run.{Entry, Run, Fresh, Routable}
use Rattle.model.specs.Requests.{Mark, accepted, arrivals, found, marked, mark, noting, marks, struck, strike, Alternate, last}
use Rattle.model.specs.Requests.Mark.{comes, goes}
use Rattle.model.specs.Promises.{NoneLostNoneDoubled}
use Rattle.model.proofs.Kernels.{same_kernel, stage_cases}
use Rattle.model.proofs.Views.{masks_pending}
use Rattle.model.proofs.Leaves.{next_leaves, stage_leaves}

-- ---- lists of marks

-- a line that pends (or not), a mark, and whether it pends afterwards
abbrev Moves : Bool → Option Mark → Bool → Type 0
Moves w None w' = w' ≡ w
Moves w (Some comes) w' = w' ≡ true
Moves w (Some goes) w' = (w ≡ true) × (w' ≡ false)

abbrev due : Bool → Mark
due true = goes
due false = comes

-- whether the line pends, by the last mark, and w without one
abbrev after : Bool → Option Mark → Bool
after w None = w
after w (Some comes) = true
after w (Some goes) = false

-- what is shown of the marks from any state w to any state w'
record Turn (w : Bool) (l : List Mark) (w' : Bool) : Type 0 where
  alternate : Alternate (due w) (struck w l)
  standing : after w (last (struck w l)) ≡ w'

last_any : (w u : Bool) (x : Mark) (l : List Mark) → after w (last (x ∷ l)) ≡ after u (last (x ∷ l))
last_any w u comes [] = refl
last_any w u goes [] = refl
last_any w u x (y ∷ l) = last_any w u y l

last_comes : (w : Bool) (l : List Mark) → after w (last (comes ∷ l)) ≡ after true (last l)
last_comes w [] = refl
last_comes w (y ∷ l) = last_any w true y l

last_goes : (w : Bool) (l : List Mark) → after w (last (goes ∷ l)) ≡ after false (last l)
last_goes w [] = refl
last_goes w (y ∷ l) = last_any w false y l

turn_comes : (w : Bool) (l : List Mark) (w' : Bool) → Turn true l w' → Turn w (comes ∷ l) w'
turn_comes true l w' t = record { alternate = t.alternate; standing = t.standing }
turn_comes false l w' t = record { alternate = (refl, t.alternate); standing = last_comes false (struck true l) ∙ t.standing }

turn_goes : (l : List Mark) (w' : Bool) → Turn false l w' → Turn true (goes ∷ l) w'
turn_goes l w' t = record { alternate = (refl, t.alternate); standing = last_goes true (struck false l) ∙ t.standing }

turn_more : (w u w' : Bool) (x : Option Mark) (l : List Mark) → Moves w x u → Turn u l w' → Turn w (noting x l) w'
turn_more w u w' None l e t = subst (λ b. Turn b l w') e t
turn_more w u w' (Some comes) l e t = turn_comes w l w' (subst (λ b. Turn b l w') e t)
turn_more w u w' (Some goes) l (e, f) t = subst (λ b. Turn b (goes ∷ l) w') (sym e) (turn_goes l w' (subst (λ b. Turn b l w') f t))

-- ---- one call

-- a request comes, or goes, where x says so
comes_when : (w x : Bool) → Moves w (marked x comes) (w || x)
comes_when true true = refl
comes_when true false = refl
comes_when false true = refl
comes_when false false = refl

goes_when : (w x : Bool) → (x ≡ true → w ≡ true) → Moves w (marked x goes) (w && not x)
goes_when true true h = (refl, refl)
goes_when true false h = refl
goes_when false true h = absurd (false≢true (h refl))
goes_when false false h = refl

-- no mark, and nothing changed
none_when : (w w' x : Bool) (y : Mark) → x ≡ false → w' ≡ w → Moves w (marked x y) w'
none_when w w' x y e f = subst₂ (λ a b. Moves w (marked a y) b) (sym e) (sym f) refl

and_yes : (x : Bool) → (x && true) ≡ x
and_yes true = refl
and_yes false = refl

and_no : (x : Bool) → (x && false) ≡ false
and_no true = refl
and_no false = refl

-- what a call says of line n at a place, and how that line's pending changes there
Right : MachineModel → Place → ℕ → Call → Reply → MachineModel → Type 0
Right m p n c a m' = Moves (has (view m p).pending n) (mark m.routes p n c a) (has (view m' p).pending n)

raise_moves : (k n : ℕ) (v w : View) (r : Result Raised ControllerFault) → Raises v k r w → Moves (has v.pending n) (marked (eqb n k && accepted (raise_says r)) comes) (has w.pending n)
raise_moves k n v w (Ok r) h =
    subst₂ (λ x y. Moves (has v.pending n) (marked x comes) y) (sym (and_yes (eqb n k)))
    (ap (λ x. has v.pending n || x) (sym (has-only k n)) ∙ sym (has-union v.pending (only k) n) ∙ ap (λ x. has x.pending n) (sym h.2)) (comes_when (has v.pending n) (eqb n k))
raise_moves k n v w (Err e) h = none_when _ _ _ comes (and_no (eqb n k)) (ap (λ x. has x.pending n) h.2)

pump_moves : {E : Type 0} (limit c n : ℕ) (m m' : MachineModel) (r : Result ℕ E) → Pumps limit c m r m'
    → Moves (has m.hardware.pending n) (marked (has (arrivals (pump_says r)) n) goes) (has m'.hardware.pending n)
pump_moves limit c n m m' (Ok s) (b, f, e) =
    subst (λ y. Moves (has m.hardware.pending n) (marked (has s n) goes) y) (sym (has-minus m.hardware.pending s n) ∙ ap (λ x. has x.hardware.pending n) (sym e))
    (goes_when (has m.hardware.pending n) (has s n) (λ h. (f.front.ready n h).pends))
pump_moves limit c n m m' (Err d) (b, e) = none_when _ _ _ goes (has_none n) (ap (λ x. has x.hardware.pending n) e)

hardware_moves : (m m' : MachineModel) (n : ℕ) (c : Call) (a : Reply) → Step m c a m' → Right m hardware n c a m'
unfolding Right
hardware_moves m m' n (raise k) a x =
    let d = x.does in
    subst₂ (λ b y. Moves (has m.hardware.pending n) (marked (eqb n k && accepted b) comes) (has y.hardware.pending n)) (sym x.answers) (sym d.2)
    (raise_moves k n m.hardware d.0 x.result d.1)
hardware_moves m m' n (mask_hardware s) a x =
    let d = x.does in
    ap (λ y. has y.hardware.pending n) d.2 ∙ ap (λ y. has y n) (masks_pending s.bits m.hardware d.0 x.result d.1)
hardware_moves m m' n (pump c) a x =
    subst (λ b. Moves (has m.hardware.pending n) (marked (has (arrivals b) n) goes) (has m'.hardware.pending n)) (sym x.answers) (pump_moves 64 c n m m' x.result x.does)
hardware_moves m m' n (next j) a x =
    elim (next_leaves j m m' a x) [
      | inl e ↦ ap (λ y. has y.hardware.pending n) e
      | inr (s, i, e) ↦ ap (λ y. has y.hardware.pending n) e
    ]
hardware_moves m m' n (to j c) a x = ap (λ y. has y.hardware.pending n) (stage_leaves j m m' c a x).2
hardware_moves m m' n (ask p q) a x = ap (λ y. has y.hardware.pending n) x.1

-- ---- at a kernel

all_of : (x y : Bool) → (x ≡ true → y ≡ true) → (x && y) ≡ x
all_of true y h = h refl
all_of false y h = refl

arrival_moves : {E : Type 0} (limit c n : ℕ) (k : Kernel) (m m' : MachineModel) (r : Result ℕ E) → Routable m → Pumps limit c m r m'
    → Moves (has (m.stage k).own.pending n) (marked (has (arrivals (pump_says r)) n && has (routed m.routes k) n) comes) (has (m'.stage k).own.pending n)
arrival_moves limit c n k m m' (Ok s) f (b, g, e) =
    let w = (m.stage k).own.pending in
    subst (λ y. Moves (has w n) (marked (has s n && has (routed m.routes k) n) comes) y)
    (sym (has-union w (common s (taken_up m k)) n
    ∙ ap (λ x. has w n || x) (has-common s (taken_up m k) n
    ∙ ap (λ x. has s n && x) (has-common (routed m.routes k) (m.stage k).own.lines n ∙ all_of (has (routed m.routes k) n) (has (m.stage k).own.lines n) (f k n))))
    ∙ ap (λ x. has (x.stage k).own.pending n) (sym e))
    (comes_when (has w n) (has s n && has (routed m.routes k) n))
arrival_moves limit c n k m m' (Err d) f (b, e) =
    none_when _ _ _ comes (ap (λ x. x && has (routed m.routes k) n) (has_none n)) (ap (λ x. has (x.stage k).own.pending n) e)

-- a take at what is told
take_moves : (n : ℕ) (v w : View) (r : Option ℕ) → Takes v r w → Moves (has v.pending n) (marked (found r n) goes) (has w.pending n)
take_moves n v w None h = ap (λ x. has x.pending n) h.1
take_moves n v w (Some i) h =
    subst (λ y. Moves (has v.pending n) (marked (eqb n i) goes) y)
    (ap (λ x. has v.pending n && not x) (sym (has-only i n)) ∙ sym (has-minus v.pending (only i) n) ∙ ap (λ x. has x.pending n) (sym h.1))
    (goes_when (has v.pending n) (eqb n i) (λ e. subst (λ x. has v.pending x ≡ true) (sym (eqb-true n i e)) h.0.one.pends))

-- a delivery at the stage of j, seen at the stage of k; b says whether they are one
delivery_moves : (b : Bool) (s s' t : StageModel) (n : ℕ) (r : Option ℕ) → (b ≡ true → s ≡ t)
    → Moves (has s.own.pending n) (marked (found r n) goes) (has s'.own.pending n)
    → Moves (has t.own.pending n) (marked (b && found r n) goes) (has (cond b s' t).own.pending n)
delivery_moves true s s' t n r q h = subst (λ x. Moves (has x.own.pending n) (marked (found r n) goes) (has s'.own.pending n)) (q refl) h
delivery_moves false s s' t n r q h = refl

kernel_moves : (m m' : MachineModel) (k : Kernel) (n : ℕ) (c : Call) (a : Reply) → Routable m → Step m c a m' → Right m (kernel k) n c a m'
unfolding Right
kernel_moves m m' k n (raise i) a f x = ap (λ y. has (y.stage k).own.pending n) x.does.2
kernel_moves m m' k n (mask_hardware s) a f x = ap (λ y. has (y.stage k).own.pending n) x.does.2
kernel_moves m m' k n (pump c) a f x =
    subst (λ b. Moves (has (m.stage k).own.pending n) (marked (has (arrivals b) n && has (routed m.routes k) n) comes) (has (m'.stage k).own.pending n)) (sym x.answers)
    (arrival_moves 64 c n k m m' x.result f x.does)
kernel_moves m m' k n (next j) a f (inl (h, (e, p))) =
    subst (λ b. Right m (kernel k) n (next j) b m') (sym e) (none_when _ _ _ goes (and_no (same k j)) (ap (λ y. has (y.stage k).own.pending n) p))
kernel_moves m m' k n (next j) a f (inr (inl (h, b, (e, p)))) =
    subst (λ b. Right m (kernel k) n (next j) b m') (sym e) (none_when _ _ _ goes (and_no (same k j)) (ap (λ y. has (y.stage k).own.pending n) p))
kernel_moves m m' k n (next j) a f (inr (inr (h, b, t))) =
    let d = t.does in
    let w = d.1 in
    subst₂ (λ x y. Right m (kernel k) n (next j) x y) (sym t.answers) (sym d.2)
    (delivery_moves (same k j) (m.stage j) d.0 (m.stage k) n t.result (λ e. ap (λ x. m.stage x) (sym (same_kernel k j e)))
    (subst (λ x. Moves (has (m.stage j).own.pending n) (marked (found t.result n) goes) (has x.own.pending n)) (sym w.2) (take_moves n (told (m.stage j)) w.0 t.result w.1)))
kernel_moves m m' k n (to j c) a f x =
    let y = stage_leaves j m m' c a x in
    subst (λ z. has (z.stage k).own.pending n ≡ has (m.stage k).own.pending n) (sym y.2)
    (stage_cases (λ z. has z.own.pending n ≡ has (m.stage k).own.pending n) m j y.0 k
    (λ q. ap (λ z. has z n) (y.1.pending ∙ ap (λ z. (m.stage z).own.pending) (sym q))) refl)
kernel_moves m m' k n (ask p q) a f x = ap (λ y. has (y.stage k).own.pending n) x.1

step_moves : (m m' : MachineModel) (p : Place) (n : ℕ) (c : Call) (a : Reply) → Routable m → Step m c a m' → Right m p n c a m'
step_moves m m' hardware n c a f x = hardware_moves m m' n c a x
step_moves m m' (kernel k) n c a f x = kernel_moves m m' k n c a f x

-- ---- the routes and the stages' lines stay

pumps_routes : {E : Type 0} (limit c : ℕ) (m m' : MachineModel) (r : Result ℕ E) → Pumps limit c m r m' → m'.routes ≡ m.routes
pumps_routes limit c m m' (Ok s) (b, f, e) = ap (λ y. y.routes) e
pumps_routes limit c m m' (Err d) (b, e) = ap (λ y. y.routes) e

pub step_routes : (m m' : MachineModel) (c : Call) (a : Reply) → Step m c a m' → m'.routes ≡ m.routes
step_routes m m' (raise i) a x = ap (λ y. y.routes) x.does.2
step_routes m m' (mask_hardware s) a x = ap (λ y. y.routes) x.does.2
step_routes m m' (pump c) a x = pumps_routes 64 c m m' x.result x.does
step_routes m m' (next j) a x =
    elim (next_leaves j m m' a x) [ inl e ↦ ap (λ y. y.routes) e | inr (s, i, e) ↦ ap (λ y. y.routes) e ]
step_routes m m' (to j c) a x = ap (λ y. y.routes) (stage_leaves j m m' c a x).2
step_routes m m' (ask p q) a x = ap (λ y. y.routes) x.1

pumps_lines : {E : Type 0} (limit c : ℕ) (k : Kernel) (m m' : MachineModel) (r : Result ℕ E) → Pumps limit c m r m' → (m'.stage k).own.lines ≡ (m.stage k).own.lines
pumps_lines limit c k m m' (Ok s) (b, f, e) = ap (λ y. (y.stage k).own.lines) e
pumps_lines limit c k m m' (Err d) (b, e) = ap (λ y. (y.stage k).own.lines) e

stage_lines : (m m' : MachineModel) (j k : Kernel) (s : StageModel) → s.own.lines ≡ (m.stage j).own.lines → m' ≡ with_stage m j s → (m'.stage k).own.lines ≡ (m.stage k).own.lines
stage_lines m m' j k s i e =
    subst (λ z. (z.stage k).own.lines ≡ (m.stage k).own.lines) (sym e)
    (stage_cases (λ z. z.own.lines ≡ (m.stage k).own.lines) m j s k (λ q. i ∙ ap (λ z. (m.stage z).own.lines) (sym q)) refl)

step_lines : (m m' : MachineModel) (k : Kernel) (c : Call) (a : Reply) → Step m c a m' → (m'.stage k).own.lines ≡ (m.stage k).own.lines
step_lines m m' k (raise i) a x = ap (λ y. (y.stage k).own.lines) x.does.2
step_lines m m' k (mask_hardware s) a x = ap (λ y. (y.stage k).own.lines) x.does.2
step_lines m m' k (pump c) a x = pumps_lines 64 c k m m' x.result x.does
step_lines m m' k (next j) a x =
    elim (next_leaves j m m' a x) [ inl e ↦ ap (λ y. (y.stage k).own.lines) e | inr (s, i, e) ↦ stage_lines m m' j k s i e ]
step_lines m m' k (to j c) a x = let y = stage_leaves j m m' c a x in stage_lines m m' j k y.0 y.1.lines y.2
step_lines m m' k (ask p q) a x = ap (λ y. (y.stage k).own.lines) x.1

pub step_routable : (m m' : MachineModel) (c : Call) (a : Reply) → Routable m → Step m c a m' → Routable m'
step_routable m m' c a f x k n h =
    subst (λ y. has y n ≡ true) (sym (step_lines m m' k c a x)) (f k n (subst (λ r. has (routed r k) n ≡ true) (step_routes m m' c a x) h))

-- ---- a whole run

run_turns : (m m' : MachineModel) (h : List Entry) (p : Place) (n : ℕ) → Routable m → Run m h m'
    → Turn (has (view m p).pending n) (marks m.routes p n h) (has (view m' p).pending n)
unfolding Right
run_turns m m' [] p n f e = record { alternate = tt; standing = ap (λ x. has (view x p).pending n) (sym e) }
run_turns m m' (e ∷ h) p n f (m₁, x, r) =
    turn_more (has (view m p).pending n) (has (view m₁ p).pending n) (has (view m' p).pending n)
    (mark m.routes p n e.call e.answer) (marks m.routes p n h) (step_moves m m₁ p n e.call e.answer f x)
    (subst (λ y. Turn (has (view m₁ p).pending n) (marks y p n h) (has (view m' p).pending n)) (step_routes m m₁ e.call e.answer x)
    (run_turns m₁ m' h p n (step_routable m m₁ e.call e.answer f x) r))

fresh_pends : (m : MachineModel) (p : Place) (n : ℕ) → Fresh m → has (view m p).pending n ≡ false
fresh_pends m hardware n f = ap (λ x. has x.pending n) f.at_hardware.empty ∙ has_none n
fresh_pends m (kernel k) n f = ap (λ x. has x.pending n) (f.at_stage k).empty ∙ has_none n

last_is : (o : Option Mark) → after false o ≡ true → o ≡ Some comes
last_is None e = absurd (false≢true e)
last_is (Some comes) e = refl
last_is (Some goes) e = absurd (false≢true e)

pub none_lost_none_doubled : NoneLostNoneDoubled strike
none_lost_none_doubled m m' h p n f g r =
    let t : Turn false (marks m.routes p n h) (has (view m' p).pending n)
    = subst (λ w. Turn w (marks m.routes p n h) (has (view m' p).pending n)) (fresh_pends m p n f) (run_turns m m' h p n g r) in
    record {
      alternate = t.alternate;
      standing = λ e. last_is (last (struck false (marks m.routes p n h))) (t.standing ∙ e);
      stands = λ e. sym t.standing ∙ ap (after false) e;
    }
