-- Phrases that break no rule, and declare variables of type int alone.
use Rattle.std.proofs.Common.{◌≡◌, List, [], ◌∷◌, ◌++◌, inl, inr, refl, sym, ap, subst, ◌∙◌}
use Rattle.std.specs.Prelude.{Contains}
use Rattle.c_tree.specs.declared.raw.program.RawProgram.{RawProgram}
use Rattle.c_tree.specs.declared.raw.statement.RawStatement.{RawStatement}
use Rattle.c_language.specs.Phrases.{Stand, InBlock, Part, Declares, Phrase, Phrases, phrase, scoped, body_phrases, after_body}
use Rattle.c_language.specs.Rules.{KeepsAll}
use Rattle.c_language.specs.Scopes.{Scope, Scoped}
use Rattle.c_language.proofs.Lists.{contains_nil, contains_cons}
use Rattle.c_types_base.proofs.TypedLaws.{IsTyped}
use Rattle.c_types_checks.specs.Checking.{kept}
use Rattle.c_types_checks.specs.PhraseChecks.{check_part}
use Rattle.c_types_checks.proofs.PhraseLaws.{kept_breaks_none}
use Rattle.big_laws.specs.Trees.{int}

-- what is declared is of type int
abbrev pub IsPlain : Part → Type 0
IsPlain (Declares stand var i) = var.shape ≡ int
IsPlain _ = Unit {0}

pub record IsGood (raw : RawProgram) (p : Phrase) : Type 0 where
  pub keeps : KeepsAll raw p
  pub plain : IsPlain p.part

abbrev pub AreGood : RawProgram → Phrases → Type 0
AreGood raw [] = Unit {0}
AreGood raw (p ∷ ps) = IsGood raw p × AreGood raw ps

pub good_joined : (raw : RawProgram) (ps qs : Phrases) → AreGood raw ps → AreGood raw qs → AreGood raw (ps ++ qs)
good_joined raw [] qs first second = second
good_joined raw (p ∷ ps) qs first second = (first.0, good_joined raw ps qs first.1 second)

pub good_among : (raw : RawProgram) (ps : Phrases) → AreGood raw ps → (p : Phrase) → Contains ps p → IsGood raw p
good_among raw [] h p c = absurd (contains_nil p c)
good_among raw (q ∷ ps) h p c = elim (contains_cons q p ps c) [ inl same ↦ subst (IsGood raw) same h.0 | inr c ↦ good_among raw ps h.1 p c ]

-- a phrase whose check tells no rule
pub good : (raw : RawProgram) (scope : Scope) → IsTyped raw scope → (part : Part) → check_part raw scope part ≡ kept → IsPlain part → IsGood raw (phrase 0 scope part)
good raw scope typed part checked plain = record { keeps = kept_breaks_none raw scope typed part checked; plain = plain }

-- ---- statements one after another

-- a list of statements is good, and leads to a scope
pub record IsGoodBody (raw : RawProgram) (body : List RawStatement) (scope end : Scope) : Type 0 where
  pub good : AreGood raw (body_phrases raw body scope)
  pub after : after_body raw body scope ≡ end

pub good_end : (raw : RawProgram) (scope : Scope) → IsGoodBody raw [] scope scope
good_end raw scope = record { good = tt; after = refl }

-- a statement of which the phrases and the scope behind it are known, and the rest
pub good_then : (raw : RawProgram) (one : RawStatement) (rest : List RawStatement) (step : Scoped (Stand → Phrases)) (scope next end : Scope)
    → scoped raw one ≡ step → AreGood raw (step.gives scope InBlock) → step.after scope ≡ next → IsGoodBody raw rest next end → IsGoodBody raw (one ∷ rest) scope end
good_then raw one rest step scope next end is first after later = record {
  good =
      subst (λ (x : Scoped (Stand → Phrases)). AreGood raw (x.gives scope InBlock ++ body_phrases raw rest (x.after scope))) (sym is)
      (good_joined raw (step.gives scope InBlock) (body_phrases raw rest (step.after scope)) first
      (subst (λ (place : Scope). AreGood raw (body_phrases raw rest place)) (sym after) later.good));
  after = ap (λ (x : Scoped (Stand → Phrases)). after_body raw rest (x.after scope)) is ∙ ap (after_body raw rest) after ∙ later.after;
}
