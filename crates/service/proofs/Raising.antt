-- Raising the lines of a burst, one after another.
use Rattle.std.proofs.Common.{◌≡◌, ℕ, ◌+◌, ◌<◌, true, false, cond, List, [], ◌∷◌, ◌++◌, length, get_or, take, Ok, Err, Result, sym, refl, ap, ◌∙◌, subst, inl, inr, arith}
use Rattle.std.proofs.lemmas.Bool.Decides.{nat_tests}
use Rattle.std.proofs.lemmas.Bool.{cases_eq}
use Rattle.std.proofs.lemmas.List.{take_more, take_all, length_push, get_or_push, get_or_append_left}
use Rattle.lines.specs.Sets.{has, union, common, only}
use Rattle.lines.proofs.Laws.{ext, has-union, has-common, has-only, has_none}
use Rattle.controller.specs.declared.fault.ControllerFault.{ControllerFault}
use Rattle.controller.specs.declared.fault.Raised.{Raised}
use Rattle.controller.specs.declared.fault.Raised.TheVariants.{New, Merged}
use Rattle.controller.specs.View.{View, set_pending}
use Rattle.controller.specs.Calls.{Raises}
use Rattle.service.specs.Bursts.{set_of, answer, Answers, raised_all}
use Rattle.service.proofs.Lists.{set_push}

-- the first i requests of the burst are raised
pub record Raising (v₀ v : View) (burst : List ℕ) (i : ℕ) (answers : List (Result Raised ControllerFault)) : Type 0 where
  pub view : v ≡ raised_all v₀ (take i burst)
  pub long : length answers ≡ i
  pub each : (k : ℕ) (d : Result Raised ControllerFault) → k < i → get_or answers k d ≡ answer v₀ (take k burst) (get_or burst k 0)

pub raising_none : (v : View) (burst : List ℕ) → Raising v v burst 0 []
raising_none v burst =
    record {
      view = ap (set_pending v) (ext _ _ (λ m. simp (has-union, has-common, has_none) (grind (arith, nat_tests))));
      long = refl;
      each = λ k d h. absurd (omega arith);
    }

-- a line of the controller among those raised so far
merges : (p s lines n : ℕ) → has lines n ≡ true → has (union p (common s lines)) n ≡ has (union p s) n
merges p s lines n h = simp (has-union, has-common) (grind (arith, nat_tests))

more_lines : (p s lines n : ℕ) → has lines n ≡ true → union (union p (common s lines)) (only n) ≡ union p (common (union s (only n)) lines)
more_lines p s lines n h = ext _ _ (λ m. let e = has-only n m in simp (has-union, has-common) (grind (arith, nat_tests)))

no_line : (p s lines n : ℕ) → has lines n ≡ false → union p (common s lines) ≡ union p (common (union s (only n)) lines)
no_line p s lines n h = ext _ _ (λ m. let e = has-only n m in simp (has-union, has-common) (grind (arith, nat_tests)))

module _ (v₀ v : View) (burst : List ℕ) (i : ℕ) (answers : List (Result Raised ControllerFault)) (a : Raising v₀ v burst i answers) (l : i < length burst) where
  abbrev line : ℕ
  line = get_or burst i 0

  abbrev so_far : ℕ
  so_far = set_of (take i burst)

  one_more : set_of (take (i + 1) burst) ≡ union so_far (only line)
  one_more = ap set_of (take_more burst i 0 l) ∙ set_push (take i burst) line

  pended : v.pending ≡ union v₀.pending (common so_far v₀.lines)
  pended = ap (λ z. z.pending) a.view

  same_lines : v.lines ≡ v₀.lines
  same_lines = ap (λ z. z.lines) a.view

  answers_so : (r : Result Raised ControllerFault) (w : View) → Raises v line r w → r ≡ answer v₀ (take i burst) line
  answers_so (Ok x) w h =
      let t : has v₀.lines line ≡ true = subst (λ z. has z line ≡ true) same_lines h.0 in
      let m : has v.pending line ≡ has (union v₀.pending so_far) line = ap (λ z. has z line) pended ∙ merges v₀.pending so_far v₀.lines line t in
      ap Ok (h.1 ∙ ap (λ b. cond b Merged New) m) ∙ sym (rw t)
  answers_so (Err x) w h =
      let f : has v₀.lines line ≡ false = subst (λ z. has z line ≡ false) same_lines h.0 in
      ap Err h.1 ∙ sym (rw f)

  leaves_so : (r : Result Raised ControllerFault) (w : View) → Raises v line r w → w ≡ raised_all v₀ (take (i + 1) burst)
  leaves_so (Ok x) w h =
      let t : has v₀.lines line ≡ true = subst (λ z. has z line ≡ true) same_lines h.0 in
      h.2 ∙ ap (λ z. set_pending z (union z.pending (only line))) a.view
      ∙ ap (set_pending v₀) (more_lines v₀.pending so_far v₀.lines line t ∙ ap (λ s. union v₀.pending (common s v₀.lines)) (sym one_more))
  leaves_so (Err x) w h =
      let f : has v₀.lines line ≡ false = subst (λ z. has z line ≡ false) same_lines h.0 in
      h.2 ∙ a.view ∙ ap (set_pending v₀) (no_line v₀.pending so_far v₀.lines line f ∙ ap (λ s. union v₀.pending (common s v₀.lines)) (sym one_more))

  pub raising_more : (r : Result Raised ControllerFault) (w : View) → Raises v line r w → Raising v₀ w burst (i + 1) (answers ++ r ∷ [])
  raising_more r w h =
      record {
        view = leaves_so r w h;
        long = length_push answers r ∙ ap (λ n. n + 1) a.long;
        each = λ k d b. elim (cases_eq k i) [
          | inl e ↦ rw e (get_or_push answers r d i a.long ∙ answers_so r w h)
          | inr f ↦ let k_in : k < length answers = omega (arith, a.long) in get_or_append_left answers (r ∷ []) d k k_in ∙ a.each k d (omega arith)
        ];
      }

pub raising_all : (v₀ v : View) (burst : List ℕ) (i : ℕ) (answers : List (Result Raised ControllerFault)) → i ≡ length burst → Raising v₀ v burst i answers
    → (v ≡ raised_all v₀ burst) × Answers v₀ burst answers
raising_all v₀ v burst i answers e a = (
  a.view ∙ ap (raised_all v₀) (take_all i burst (omega arith)),
  record { long = a.long ∙ e; each = λ k d b. a.each k d (omega arith) },
)
