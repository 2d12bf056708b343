-- Every call of a machine has an answer.
use Rattle.std.proofs.Common.{◌≡◌, ℕ, zero, suc, Bool, true, false, ◌⊎◌, List, [], ◌∷◌, Some, None, Ok, Err, Option, Result, refl, ap, subst, inl, inr}
use Rattle.std.proofs.lemmas.Bool.{cases_Bool, cases_eq, cases_lt, both_ways}
use Rattle.lines.specs.Sets.{union, only}
use Rattle.controller.specs.View.{View, Sound, Deliverable, Serving, ahead}
use Rattle.controller.specs.Calls.{Raises, Masks, Takes, Ends}
use Rattle.controller.specs.Picks.{Picks}
use Rattle.controller.proofs.Keeps.{takes_sound, ends_sound}
use Rattle.spl.specs.declared.fault.LevelFault.TheVariants.{NoSuchLevel}
use Rattle.model.specs.declared.calls.Kernel.{Kernel}
use Rattle.model.specs.declared.calls.Place.TheVariants.{Hardware as hardware, Kernel as kernel}
use Rattle.model.specs.declared.calls.StageCall.{StageCall}
use Rattle.model.specs.declared.calls.StageCall.TheVariants.{Done as done, Mask as mask, Stall as stall, Unstall as unstall, SetLevel as set_level}
use Rattle.model.specs.declared.calls.Call.{Call}
use Rattle.model.specs.declared.calls.Call.TheVariants.{Raise as raise, MaskHardware as mask_hardware, Pump as pump, Next as next, To as to, Ask as ask}
use Rattle.model.specs.declared.calls.Answer.TheVariants.{Held as held, Busy as busy, Told as set_told}
use Rattle.model.specs.Arrivals.{Arrivals, Passes}
use Rattle.model.specs.Stage.{StageModel, told, telling, Through, SetsStalled, SetsStageLevel}
use Rattle.model.specs.Machine.{MachineModel, pipeline, before, with_hardware, with_stage, view, tells, set_of, AtHardware, AtStage, pumped, Pumps, Held, Busy, Answered, raise_says, mask_says, done_says, level_says, pump_says, Nexts, StageStep, Step, Reply, take_says, stall_says}
use Rattle.model.specs.Run.{Entry, calls, Run, Fresh}
use Rattle.model.specs.Promises.{EveryListRuns}
use Rattle.model.proofs.Kernels.{In, all_in}
use Rattle.model.proofs.Views.{self_alike}
use Rattle.model.proofs.Steps.{AlikeMachine, told_sound, step_alike}
use Rattle.model.proofs.Pump.{one_by_one}
use Rattle.model.proofs.Computed.{raise_result, raise_leaves, mask_result, mask_leaves, take_result, take_leaves, end_result, end_leaves, raise_computed, mask_computed, take_computed, end_computed, take_picks, end_picks, first_serving}
use Rattle.model.proofs.Runs.{all_concern}

-- ---- a pump

-- whatever a take finds, the lines can be passed on one after another
module _ (n : ℕ) (rest : (v : View) → Sound v → (s : ℕ) × (w : View) × Passes n v s w) where
  pass : (v w : View) (r : Option ℕ) → Sound v → Takes v r w → (s : ℕ) × (x : View) × Passes (suc n) v s x
  pass v w None o t = (0, w, inl (t, refl))
  pass v w (Some k) o t =
      let p = takes_sound v o (Some k) w t in
      let e = end_computed w p in
      let q = rest (end_leaves w) (ends_sound w p (end_result w) (end_leaves w) e) in
      (union (only k) q.0, q.1, inr (k, q.0, w, end_leaves w, end_result w, t, e, q.2, refl))

passes_always : (n : ℕ) (v : View) → Sound v → (s : ℕ) × (w : View) × Passes n v s w
passes_always zero v o = (0, v, (refl, refl))
passes_always (suc n) v o = pass n (passes_always n) v (take_leaves v) (take_result v) o (take_computed v o)

arrivals_always : (n : ℕ) (v : View) → Sound v → (s : ℕ) × Arrivals v n s
arrivals_always n v o = let p = passes_always n v o in (p.0, (one_by_one v p.1 n p.0 o p.2).0)

pumps_always : (limit n : ℕ) (m : MachineModel) → Sound m.hardware → (r : Result ℕ (Unit {0})) × (m' : MachineModel) × Pumps limit n m r m'
pumps_always limit n m o =
    elim (cases_lt limit n) [
      | inl l ↦ (Err tt, m, (l, refl))
      | inr g ↦ let a = arrivals_always n m.hardware o in (Ok a.0, pumped m a.0, (g, a.1, refl))
    ]

-- ---- held and busy are decided

abbrev Decided : Type 0 → Type 0
Decided P = P ⊎ (P → ⊥)

-- whether a kernel of the list that stands before k has the property
module _ (k : Kernel) (P : Kernel → Type 0) (each : (j : Kernel) → Decided (P j)) where
  abbrev some_before : List Kernel → Type 0
  some_before l = (j : Kernel) × In j l × (before j k ≡ true) × P j

  one_decided : (i : Kernel) → Decided ((before i k ≡ true) × P i)
  one_decided i =
      elim (cases_Bool (before i k)) [
        | inl b ↦ elim (each i) [ inl p ↦ inl (b, p) | inr n ↦ inr (λ x. n x.1) ]
        | inr b ↦ inr (λ x. both_ways (before i k) b x.0)
      ]

  some_decided : (l : List Kernel) → Decided (some_before l)
  some_decided [] = inr (λ x. x.1)
  some_decided (i ∷ l) =
      elim (one_decided i) [
        | inl p ↦ inl (i, inl refl, p.0, p.1)
        | inr n ↦ elim (some_decided l) [
          | inl (j, x, b, p) ↦ inl (j, inr x, b, p)
          | inr m ↦ inr (λ (j, x, b, p). elim x [ inl e ↦ n (subst (λ y. (before y k ≡ true) × P y) e (b, p)) | inr y ↦ m (j, y, b, p) ])
        ]
      ]

  pub before_decided : Decided ((j : Kernel) × (before j k ≡ true) × P j)
  before_decided =
      elim (some_decided pipeline) [
        | inl (j, x, b, p) ↦ inl (j, b, p)
        | inr n ↦ inr (λ (j, b, p). n (j, all_in j, b, p))
      ]

-- what a stage tells is sound
abbrev SoundStages : MachineModel → Type 0
SoundStages m = (k : Kernel) → Sound (m.stage k).own

module _ (m : MachineModel) (o : SoundStages m) where
  sound_at : (k : Kernel) → Sound (told (m.stage k))
  sound_at k = told_sound (m.stage k) (o k)

  -- a line in service or deliverable
  abbrev Occupied : Kernel → Type 0
  Occupied j = (n : ℕ) × (Serving (told (m.stage j)) n ⊎ Deliverable (told (m.stage j)) n)

  occupied_by : (j : Kernel) (r q : Option ℕ) → Picks (ahead (told (m.stage j))) (Serving (told (m.stage j))) r → Picks (ahead (told (m.stage j))) (Deliverable (told (m.stage j))) q
      → Decided (Occupied j)
  occupied_by j (Some n) q s d = inl (n, inl s.one)
  occupied_by j None (Some n) s d = inl (n, inr d.one)
  occupied_by j None None s d = inr (λ (n, x). elim x [ inl y ↦ s n y | inr y ↦ d n y ])

  busy_decided : (k : Kernel) → Decided (Busy m k)
  busy_decided k =
      before_decided k Occupied (λ j. let v = told (m.stage j) in occupied_by j (first_serving v) (take_result v) (end_picks v (sound_at j)) (take_picks v (sound_at j)))

  held_decided : (k : Kernel) → Decided (Held m k)
  held_decided k = before_decided k (λ j. (told (m.stage j)).blocked ≡ (told (m.stage j)).lines) (λ j. cases_eq (told (m.stage j)).blocked (told (m.stage j)).lines)

  -- ---- each call

  abbrev Stepped : (Reply → MachineModel → Type 0) → Type 0
  Stepped S = (a : Reply) × (m' : MachineModel) × S a m'

  at_stage : {X : Type 0} (k : Kernel) (R : StageModel → X → StageModel → Type 0) (says : X → Reply) (r : X) (s : StageModel) → R (m.stage k) r s
      → Stepped (Answered (AtStage k R) says m)
  at_stage k R says r s h = (says r, with_stage m k s, record { result = r; does = (s, h, refl); answers = refl })

  through : {X : Type 0} (k : Kernel) (R : View → X → View → Type 0) (says : X → Reply) (r : X) (w : View) → R (told (m.stage k)) r w
      → Stepped (Answered (AtStage k (Through R)) says m)
  through k R says r w h = at_stage k (Through R) says r (telling (m.stage k) w) (w, h, refl)

  next_always : (k : Kernel) → Stepped (Nexts k m)
  next_always k =
      elim (held_decided k) [
        | inl h ↦ (Ok held, m, inl (h, (refl, refl)))
        | inr h ↦ elim (busy_decided k) [
          | inl b ↦ (Ok busy, m, inr (inl (h, b, (refl, refl))))
          | inr b ↦
              let v = told (m.stage k) in
              let s = through k Takes take_says (take_result v) (take_leaves v) (take_computed v (sound_at k)) in
              (s.0, s.1, inr (inr (h, b, s.2)))
        ]
      ]

  level_by : (k : Kernel) (c : ℕ) (x : Bool) → (m.stage k).policy.names c ≡ x → Stepped (StageStep k m (set_level c))
  level_by k c true e = at_stage k (SetsStageLevel c) (level_says k) (Ok (m.stage k).level) _ (e, refl, refl)
  level_by k c false e = at_stage k (SetsStageLevel c) (level_says k) (Err NoSuchLevel) _ (e, refl, refl)

  stage_always : (k : Kernel) (c : StageCall) → Stepped (StageStep k m c)
  stage_always k done = let v = told (m.stage k) in through k Ends (done_says k) (end_result v) (end_leaves v) (end_computed v (sound_at k))
  stage_always k (mask s) = let v = told (m.stage k) in through k (λ x. Masks x s.bits) (mask_says (kernel k)) (mask_result v s.bits) (mask_leaves v s.bits) (mask_computed v s.bits)
  stage_always k stall = at_stage k (SetsStalled true) stall_says (m.stage k).stalled _ (refl, refl)
  stage_always k unstall = at_stage k (SetsStalled false) stall_says (m.stage k).stalled _ (refl, refl)
  stage_always k (set_level c) = level_by k c _ refl

  at_hardware : {X : Type 0} (R : View → X → View → Type 0) (says : X → Reply) (r : X) (w : View) → R m.hardware r w → Stepped (Answered (AtHardware R) says m)
  at_hardware R says r w h = (says r, with_hardware m w, record { result = r; does = (w, h, refl); answers = refl })

  step_always : Sound m.hardware → (c : Call) → Stepped (Step m c)
  step_always h (raise n) = at_hardware (λ x. Raises x n) raise_says (raise_result m.hardware n) (raise_leaves m.hardware n) (raise_computed m.hardware n)
  step_always h (mask_hardware s) =
      at_hardware (λ x. Masks x s.bits) (mask_says hardware) (mask_result m.hardware s.bits) (mask_leaves m.hardware s.bits) (mask_computed m.hardware s.bits)
  step_always h (pump n) = let p = pumps_always 64 n m h in (pump_says p.0, p.1, record { result = p.0; does = p.2; answers = refl })
  step_always h (next k) = next_always k
  step_always h (to k c) = stage_always k c
  step_always h (ask p q) = (Ok (set_told (set_of (tells (view m p) q))), m, (refl, refl))

-- ---- each list of calls, for a sound machine stays sound

abbrev Itself : MachineModel → Type 0
Itself m = AlikeMachine (λ _. true) m m

run_always : (m : MachineModel) (l : List Call) → Itself m → (h : List Entry) × (m' : MachineModel) × Run m h m' × (calls h ≡ l)
run_always m [] i = ([], m, refl, refl)
run_always m (c ∷ l) i =
    let s = step_always m (λ k. (i.at_stage k refl).own.sound) i.at_hardware.sound c in
    let j = step_alike (λ _. true) (λ x y p q. refl) c (all_concern c) i s.2 s.2 in
    let r = run_always s.1 l j.1 in
    (record { call = c; answer = s.0 } ∷ r.0, r.1, (s.1, s.2, r.2), ap (λ x. c ∷ x) r.3)

pub every_list_runs : EveryListRuns Fresh
every_list_runs m l f =
    run_always m l (record {
      at_hardware = self_alike m.hardware f.at_hardware.sound;
      at_stage = λ k h. record { own = self_alike (m.stage k).own (f.at_stage k).sound; policy = refl; level = refl; stalled = refl };
      routes = refl;
    })
