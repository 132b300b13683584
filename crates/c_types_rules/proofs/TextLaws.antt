-- A text whose phrases are walked keeps all rules, or a rule that is told is broken.
use Rattle.std.proofs.Common.{◌≡◌, ℕ, List, [], ◌∷◌, true, false, is_some, Ok, Err, refl, sym, ap, subst, ◌∙◌, inl, inr, true≢false}
use Rattle.std.specs.Prelude.{Contains}
use Rattle.c_types_base.proofs.ListingLaws.{gone}
use Rattle.c_tree.specs.declared.raw.program.RawItem.{RawItem}
use Rattle.c_tree.specs.declared.raw.program.RawProgram.{RawProgram}
use Rattle.c_language.specs.DeclaredTypes.{definition_of}
use Rattle.c_language.specs.NameRules.{main_name}
use Rattle.c_language.specs.Phrases.{Phrase, Phrases, items_phrases, phrases}
use Rattle.c_language.specs.Rules.{IsBroken, KeepsRules, KeepsAll, AreKept}
use Rattle.c_language.specs.Scopes.{outset}
use Rattle.c_language.proofs.Lists.{contains_nil, contains_cons, contains_first, contains_later}
use Rattle.c_types_base.specs.Tables.{scope_of}
use Rattle.c_types_base.specs.declared.tables.Tables.{Tables}
use Rattle.c_types_base.specs.Stretches.{of_items}
use Rattle.c_types_rules.specs.Walks.{BreaksOn, BreaksFirst, Tells, Walks, NamesBroken, NamesFirst}
use Rattle.c_types_rules.specs.declared.walk_fault.WalkFault.{WalkFault}
use Rattle.c_types_rules.specs.declared.walk_fault.WalkFault.TheVariants.{Rule, NoMemory}

module _ (raw : RawProgram) where
  each_keeps : (ps : Phrases) → AreKept raw ps → (p : Phrase) → Contains ps p → KeepsAll raw p
  each_keeps [] h p c = absurd (contains_nil p c)
  each_keeps (q ∷ ps) (here, rest) p c = elim (contains_cons q p ps c) [ inl same ↦ subst (KeepsAll raw) same here | inr c ↦ each_keeps ps rest p c ]

  record OneBroken (n line : ℕ) (ps : Phrases) : Type 0 where
    p : Phrase
    among : Contains ps p
    breaks : BreaksOn raw n line p

  one_broken : (n line : ℕ) (ps : Phrases) → BreaksFirst raw n line ps → OneBroken n line ps
  one_broken n line [] h = absurd h
  one_broken n line (p ∷ ps) (inl h) = record { p = p; among = contains_first p ps; breaks = h }
  one_broken n line (p ∷ ps) (inr h) =
      let found = one_broken n line ps h.1 in
      record { p = found.p; among = contains_later p found.p ps found.among; breaks = found.breaks }

  none_broken : AreKept raw (phrases raw) → is_some (definition_of raw main_name) ≡ true → KeepsRules raw
  none_broken kept main number line (IsBroken.by_phrase {p} c b) = each_keeps (phrases raw) kept p c number b
  none_broken kept main number line (IsBroken.no_main none) = true≢false (sym main ∙ ap is_some none)

  tells_broken : (e : WalkFault) → Tells raw (phrases raw) e → NamesBroken raw (Err e)
  tells_broken (Rule n line) h =
      let found = one_broken n line (phrases raw) h in
      subst (λ l. IsBroken n l raw) found.breaks.0 (IsBroken.by_phrase found.among found.breaks.1)
  tells_broken NoMemory h = tt

  tells_first : (e : WalkFault) → Tells raw (phrases raw) e → NamesFirst raw (Err e)
  tells_first (Rule n line) h = inl h
  tells_first NoMemory h = tt

module _ (raw : RawProgram) (t : Tables) (same : t.raw.now ≡ raw) (at : scope_of t ≡ outset) (xs : List RawItem) (all : xs ≡ raw.items) where
  phrases_are : items_phrases raw xs (scope_of t) ≡ phrases raw
  phrases_are = ap (items_phrases raw xs) at ∙ ap (λ ys. items_phrases raw ys outset) all

  kept_in_text : (new : Tables) → Walks (of_items xs) t new (Ok tt) → AreKept raw (phrases raw)
  kept_in_text new h = subst (AreKept raw) phrases_are (subst (λ r. AreKept r (items_phrases r xs (scope_of t))) same h.0)

  pub text_kept : (new : Tables) → Walks (of_items xs) t new (Ok tt) → is_some (definition_of new.raw.now main_name) ≡ true → KeepsRules raw
  text_kept new (kept, is) main =
      none_broken raw (kept_in_text new (kept, is))
      (subst (λ r. is_some (definition_of r main_name) ≡ true) (is.text ∙ same) main)

  told_in_text : (new : Tables) (e : WalkFault) → Walks (of_items xs) t new (Err e) → Tells raw (phrases raw) e
  told_in_text new e h = subst (λ ps. Tells raw ps e) phrases_are (subst (λ r. Tells r (items_phrases r xs (scope_of t)) e) same h)

  pub text_broken : (new : Tables) (e : WalkFault) → Walks (of_items xs) t new (Err e) → NamesBroken raw (Err e)
  text_broken new e h = tells_broken raw e (told_in_text new e h)

  pub text_broken_first : (new : Tables) (e : WalkFault) → Walks (of_items xs) t new (Err e) → NamesFirst raw (Err e)
  text_broken_first new e h = tells_first raw e (told_in_text new e h)

  pub main_asked_last : (new : Tables) → Walks (of_items xs) t new (Ok tt) → NamesFirst raw (Err (Rule 5 1))
  main_asked_last new h = inr (kept_in_text new h, refl, refl)

  pub text_lacks_main : (new : Tables) → Walks (of_items xs) t new (Ok tt) → is_some (definition_of new.raw.now main_name) ≡ false → IsBroken 5 1 raw
  text_lacks_main new (kept, is) main =
      IsBroken.no_main (gone (definition_of raw main_name) (subst (λ r. is_some (definition_of r main_name) ≡ false) (is.text ∙ same) main))
