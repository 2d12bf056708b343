-- Take and pump are determined by what is told, and the pump's count.
use Rattle.std.proofs.Common.{◌≡◌, ℕ, min, Some, None, Ok, Err, Result, sym, refl, ap, ◌∙◌, subst, ap₂, arith}
use Rattle.std.proofs.lemmas.Bool.{both_ways}
use Rattle.lines.specs.Sets.{size}
use Rattle.lines.specs.declared.line_set.LineSet.{LineSet}
use Rattle.controller.specs.View.{Sound, Deliverable, ahead, taken, ended}
use Rattle.controller.specs.Calls.{Raises, Masks, Takes, Ends}
use Rattle.controller.proofs.Order.{order_of, first_same}
use Rattle.model.specs.declared.calls.Answer.TheVariants.{Arrived as arrived}
use Rattle.model.specs.Arrivals.{Arrivals, SetOf}
use Rattle.model.specs.Machine.{MachineModel, Pumps, pumped, pump_says, set_of}
use Rattle.model.specs.Promises.{PumpCounts, Determined, PumpDetermined}
use Rattle.model.proofs.Views.{self_alike, none_serving, arrivals_alike, counted}

pub raise_determined : (n : ℕ) → Determined (λ v. Raises v n)
raise_determined n v w x (Ok a) (Ok b) o h k = (ap Ok (h.1 ∙ sym k.1), h.2 ∙ sym k.2)
raise_determined n v w x (Ok a) (Err e) o h k = absurd (both_ways _ k.0 h.0)
raise_determined n v w x (Err d) (Ok b) o h k = absurd (both_ways _ h.0 k.0)
raise_determined n v w x (Err d) (Err e) o h k = (ap Err (h.1 ∙ sym k.1), h.2 ∙ sym k.2)

pub mask_determined : (s : ℕ) → Determined (λ v. Masks v s)
mask_determined s v w x (Ok a) (Ok b) o h k = (refl, h.1 ∙ sym k.1)
mask_determined s v w x (Ok a) (Err e) o h k = absurd (k.0 h.0)
mask_determined s v w x (Err d) (Ok b) o h k = absurd (h.0 k.0)
mask_determined s v w x (Err d) (Err e) o h k = (ap Err (h.1 ∙ sym k.1), h.2 ∙ sym k.2)

pub end_determined : Determined Ends
end_determined v w x (Ok n) (Ok i) o h k =
    let e : n ≡ i = first_same (ahead v) v.above (order_of v o) n i h.0 k.0 in
    (ap Ok e, h.1 ∙ ap (ended v) e ∙ sym k.1)
end_determined v w x (Ok n) (Err e) o h k = absurd (none_serving v k.0 n h.0.one)
end_determined v w x (Err d) (Ok i) o h k = absurd (none_serving v h.0 i k.0.one)
end_determined v w x (Err d) (Err e) o h k = (ap Err (h.1 ∙ sym k.1), h.2 ∙ sym k.2)

pub take_determined : Determined Takes
take_determined v w x None None o h k = (refl, h.1 ∙ sym k.1)
take_determined v w x None (Some i) o h k = absurd (h.0 i k.0.one)
take_determined v w x (Some n) None o h k = absurd (k.0 n h.0.one)
take_determined v w x (Some n) (Some i) o h k =
    let e : n ≡ i = first_same (ahead v) v.above (order_of v o) n i h.0 k.0 in
    (ap Some e, h.1 ∙ ap (taken v) e ∙ sym k.1)

pumps_once : {E : Type 0} (limit n : ℕ) (m k m' k' : MachineModel) (r q : Result ℕ E) → Sound m.hardware → m.hardware ≡ k.hardware → Pumps limit n m r m' → Pumps limit n k q k'
    → (pump_says r ≡ pump_says q) × (m ≡ k → m' ≡ k')
pumps_once limit n m k m' k' (Ok s) (Ok t) o h (a, f, p) (b, g, q) =
    let e : s ≡ t = arrivals_alike (self_alike m.hardware o) n s t f (subst (λ v. Arrivals v n t) (sym h) g) in
    (ap (λ z. Ok (arrived (size z) (set_of z))) e, λ i. p ∙ ap₂ pumped i e ∙ sym q)
pumps_once limit n m k m' k' (Ok s) (Err e) o h (a, f, p) (b, q) = absurd (let z : ⊥ = omega arith in z)
pumps_once limit n m k m' k' (Err d) (Ok t) o h (a, p) (b, g, q) = absurd (let z : ⊥ = omega arith in z)
pumps_once limit n m k m' k' (Err d) (Err e) o h (a, p) (b, q) = (refl, λ i. p ∙ i ∙ sym q)

pub pump_determined : PumpDetermined
pump_determined m k m' k' n a b o h x y =
    let z = pumps_once 64 n m k m' k' x.result y.result o h x.does y.does in
    (x.answers ∙ z.0 ∙ sym y.answers, z.1)

counts : {E : Type 0} (limit n c u : ℕ) (s : LineSet) (m m' : MachineModel) (r : Result ℕ E) → Ok (arrived c s) ≡ pump_says r → Pumps limit n m r m' → SetOf (Deliverable m.hardware) u
    → (c ≡ size s.bits) × (c ≡ min n (size u))
counts limit n c u s m m' (Ok t) e (b, f, p) o =
    let x : c ≡ size t = cc in
    let y : s ≡ set_of t = cc in
    (x ∙ ap (λ z. size z.bits) (sym y), x ∙ counted m.hardware n t u f o)
counts limit n c u s m m' (Err d) e p o = absurd (let z : ◌≡◌ {A = ℕ} 0 1 = cc in omega arith)

pub pump_counts : PumpCounts min
pump_counts m m' n c u s x o = counts 64 n c u s m m' x.result x.answers x.does o
