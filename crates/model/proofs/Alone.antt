-- A controller by itself: what the rules give is what is computed.
use Rattle.std.proofs.Common.{◌≡◌, List, [], ◌∷◌, sym, refl, ap, ◌∙◌, subst, ap₂}
use Rattle.controller.specs.View.{View, Sound}
use Rattle.controller.specs.Calls.{Raises, Masks, Takes, Ends}
use Rattle.controller.proofs.Keeps.{raises_sound, masks_sound, takes_sound, ends_sound}
use Rattle.model.specs.Machine.{Answered}
use Rattle.model.specs.Promises.{Determined}
use Rattle.model.specs.Alone.{Act, Said, raise_said, mask_said, take_said, end_said, Acts, Play, acts, said, Plays, Played}
use Rattle.model.specs.Alone.Act.{raise, mask, take, end}
use Rattle.model.proofs.Lists.{cons_head, cons_tail}
use Rattle.model.proofs.Computed.{raise_result, raise_leaves, mask_result, mask_leaves, take_result, take_leaves, end_result, end_leaves, raise_computed, mask_computed, take_computed, end_computed}
use Rattle.model.proofs.Determined.{raise_determined, mask_determined, take_determined, end_determined}

unfoldable pub says : View → Act → Said
unfolding raise_result mask_result take_result end_result
says v (raise n) = raise_said (raise_result v n)
says v (mask s) = mask_said (mask_result v s)
says v take = take_said (take_result v)
says v end = end_said (end_result v)

unfoldable pub leaves : View → Act → View
unfolding raise_leaves mask_leaves take_leaves end_leaves
leaves v (raise n) = raise_leaves v n
leaves v (mask s) = mask_leaves v s
leaves v take = take_leaves v
leaves v end = end_leaves v

pub computed : (v : View) → Sound v → (c : Act) → Acts v c (says v c) (leaves v c)
unfolding says leaves
computed v o (raise n) = record { result = raise_result v n; does = raise_computed v n; answers = refl }
computed v o (mask s) = record { result = mask_result v s; does = mask_computed v s; answers = refl }
computed v o take = record { result = take_result v; does = take_computed v o; answers = refl }
computed v o end = record { result = end_result v; does = end_computed v o; answers = refl }

by_once : {X : Type 0} (R : View → X → View → Type 0) (f : X → Said) → Determined R → (v w x : View) (a b : Said) → Sound v → Answered R f v a w → Answered R f v b x → (a ≡ b) × (w ≡ x)
by_once R f h v w x a b o p q =
    let e = h v w x p.result q.result o p.does q.does in
    (p.answers ∙ ap f e.0 ∙ sym q.answers, e.1)

acts_once : (v w x : View) (c : Act) (a b : Said) → Sound v → Acts v c a w → Acts v c b x → (a ≡ b) × (w ≡ x)
acts_once v w x (raise n) a b o p q = by_once (λ y. Raises y n) raise_said (raise_determined n) v w x a b o p q
acts_once v w x (mask s) a b o p q = by_once (λ y. Masks y s) mask_said (mask_determined s) v w x a b o p q
acts_once v w x take a b o p q = by_once Takes take_said take_determined v w x a b o p q
acts_once v w x end a b o p q = by_once Ends end_said end_determined v w x a b o p q

acts_sound : (v w : View) (c : Act) (a : Said) → Sound v → Acts v c a w → Sound w
acts_sound v w (raise n) a o p = raises_sound v o n p.result w p.does
acts_sound v w (mask s) a o p = masks_sound v o s p.result w p.does
acts_sound v w take a o p = takes_sound v o p.result w p.does
acts_sound v w end a o p = ends_sound v o p.result w p.does

-- the answers of a list of calls
unfoldable pub plays : View → List Act → List Said
unfolding says leaves
plays v [] = []
plays v (c ∷ cs) = says v c ∷ plays (leaves v c) cs

pub leaves_sound : (v : View) (c : Act) → Sound v → Sound (leaves v c)
leaves_sound v c o = acts_sound v (leaves v c) c (says v c) o (computed v o c)

pub only_computed : (v : View) → Sound v → (h : Play) (t : View) → Plays Acts v h t → said h ≡ plays v (acts h)
unfolding plays
only_computed v o [] t p = refl
only_computed v o (x ∷ h) t (u, a, p) =
    let e = acts_once v u (leaves v x.0) x.0 x.1 (says v x.0) o a (computed v o x.0) in
    ap₂ ◌∷◌ e.0 (only_computed (leaves v x.0) (leaves_sound v x.0 o) h t (subst (λ y. Plays Acts y h t) e.1 p))

can_play : (v : View) → Sound v → (l : Play) → plays v (acts l) ≡ said l → (t : View) × Plays Acts v l t
unfolding plays
can_play v o [] e = (v, refl)
can_play v o (x ∷ l) e =
    let u = leaves v x.0 in
    let r = can_play u (leaves_sound v x.0 o) l (cons_tail e) in
    (r.0, (u, subst (λ a. Acts v x.0 a u) (cons_head e) (computed v o x.0), r.1))

pub played : (v : View) → Sound v → (l : Play) → plays v (acts l) ≡ said l → Played Acts v l (λ _. Unit {0})
played v o l e =
    record { possible = can_play v o l e; only = λ h t p q. only_computed v o h t p ∙ ap (plays v) q ∙ e; left = λ t p. tt }

-- ---- a layer of which each call is, of what it tells, the controller's: its answers are those of what it tells

module _ {S : Type 0} (Rule : S → Act → Said → S → Type 0) (told : S → View) (step : (s t : S) (c : Act) (a : Said) → Rule s c a t → Acts (told s) c a (told t)) where
  told_plays : (s : S) (h : Play) (t : S) → Plays Rule s h t → Plays Acts (told s) h (told t)
  told_plays s [] t p = ap told p
  told_plays s (x ∷ h) t (u, a, p) = (told u, step s u x.0 x.1 a, told_plays u h t p)

  pub only_told : (s : S) → Sound (told s) → (l : Play) → plays (told s) (acts l) ≡ said l → (h : Play) (t : S) → Plays Rule s h t → acts h ≡ acts l → said h ≡ said l
  only_told s o l e h t p q = only_computed (told s) o h (told t) (told_plays s h t p) ∙ ap (plays (told s)) q ∙ e
