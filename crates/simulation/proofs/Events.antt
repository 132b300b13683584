-- The events at the criterion, act by act.
use Rattle.std.proofs.Common.{◌≡◌, ℕ, List, [], ◌∷◌, ◌++◌, map, Bool, true, false, refl, sym, ap, ◌∙◌, append-nil}
use Rattle.std.proofs.lemmas.List.{map-append}
use Rattle.c_meaning.specs.declared.event.Event.{Event}
use Rattle.c_meaning.specs.declared.event.Shown.{Shown}
use Rattle.c_meaning.specs.Meaning.{if_in, at}
use Rattle.simulation.specs.Settings.{Setting}
use Rattle.simulation.specs.Abreast.{named, SameAt}

in_append : (b : Bool) (e : Event) (es fs : List Event) → if_in b e (es ++ fs) ≡ if_in b e es ++ fs
in_append true e es fs = refl
in_append false e es fs = refl

at-append : (set : ℕ → Bool) (es : List Event) (e : Event) → at set (es ++ e ∷ []) ≡ at set es ++ if_in (set e.statement) e []
at-append set [] e = refl
at-append set (x ∷ es) e =
    ap (if_in (set x.statement) x) (at-append set es e) ∙ in_append (set x.statement) x (at set es) (if_in (set e.statement) e [])

at-outside : (set : ℕ → Bool) (es : List Event) (e : Event) → set e.statement ≡ false → at set (es ++ e ∷ []) ≡ at set es
at-outside set es e h = at-append set es e ∙ (ap (λ b. at set es ++ if_in b e []) h ∙ append-nil (at set es))

map-if_in : (f : Event → Event) (b : Bool) (e : Event) → map f (if_in b e []) ≡ if_in b (f e) []
map-if_in f true e = refl
map-if_in f false e = refl

module _ (s : Setting) where
  -- an event of both
  both_told : (es fs : List Event) (e : Event) → s.ranks (s.statement e.statement) ≡ s.criterion e.statement → SameAt s es fs → SameAt s (es ++ e ∷ []) (fs ++ named s e ∷ [])
  both_told es fs e r same =
      at-append s.ranks fs (named s e) ∙ (ap (λ b. at s.ranks fs ++ if_in b (named s e) []) r ∙ (ap (λ xs. xs ++ if_in (s.criterion e.statement) (named s e) []) same ∙ (ap (λ ys. map (named s) (at s.criterion es) ++ ys) (sym (map-if_in (named s) (s.criterion e.statement) e)) ∙ (sym (map-append (named s) (at s.criterion es) (if_in (s.criterion e.statement) e [])) ∙ ap (map (named s)) (sym (at-append s.criterion es e))))))

  pub both_tell : (es fs : List Event) (i j : ℕ) (vs us : List Shown) → j ≡ s.statement i → vs ≡ us → s.ranks (s.statement i) ≡ s.criterion i → SameAt s es fs → SameAt s (es ++ record { statement = i; values = vs } ∷ []) (fs ++ record { statement = j; values = us } ∷ [])
  both_tell es fs i j vs us named_so shown r same =
      ap (λ (k : ℕ). at s.ranks (fs ++ record { statement = k; values = us } ∷ [])) named_so ∙ (ap (λ (xs : List Shown). at s.ranks (fs ++ record { statement = s.statement i; values = xs } ∷ [])) (sym shown) ∙ both_told es fs (record { statement = i; values = vs }) r same)

  -- an event of the original alone
  pub one_tells : (es fs : List Event) (e : Event) → s.criterion e.statement ≡ false → SameAt s es fs → SameAt s (es ++ e ∷ []) fs
  one_tells es fs e c same = same ∙ ap (map (named s)) (sym (at-outside s.criterion es e c))

  -- an event of the slice alone
  pub other_tells : (es fs : List Event) (e : Event) → s.ranks e.statement ≡ false → SameAt s es fs → SameAt s es (fs ++ e ∷ [])
  other_tells es fs e c same = at-outside s.ranks fs e c ∙ same
