-- Phrases of statements in a row, the scope behind them, the variables that phrases declare, and phrases that break no rule.
use Rattle.std.proofs.Common.{◌≡◌, ℕ, suc, List, [], ◌∷◌, ◌++◌, map, append_assoc, refl, sym, ap, ◌∙◌, arith}
use Rattle.std.specs.Prelude.{Contains}
use Rattle.c_tree.specs.declared.raw.expr.RawVar.{RawVar}
use Rattle.c_tree.specs.declared.raw.program.RawInit.{RawInit}
use Rattle.c_tree.specs.declared.raw.program.RawInit.TheVariants as init
use Rattle.c_tree.specs.declared.raw.program.RawMember.{RawMember}
use Rattle.c_tree.specs.declared.raw.program.RawParam.{RawParam}
use Rattle.c_tree.specs.declared.raw.program.RawProgram.{RawProgram}
use Rattle.c_tree.specs.declared.raw.statement.RawStatement.{RawStatement}
use Rattle.c_language.specs.Scopes.{Scope, in_order, after_all}
use Rattle.c_language.specs.Phrases.{Stand, InBlock, Phrase, Phrases, phrases, joined_at, begun_phrases, member_phrases, taken_phrases, scoped, body_phrases, after_body}
use Rattle.c_language.specs.Rules.{IsBroken, KeepsRules, KeepsAll, AreKept}
use Rattle.c_language.specs.ProgramOf.{declared_by, variables_in}

module _ (raw : RawProgram) where
  -- the variables of phrases one after another
  pub variables-append : (ps qs : Phrases) → variables_in raw (ps ++ qs) ≡ variables_in raw ps ++ variables_in raw qs
  variables-append [] qs = refl
  variables-append (p ∷ ps) qs =
      ap (λ vs. declared_by raw p.line p.scope p.part ++ vs) (variables-append ps qs) ∙ sym (append_assoc (declared_by raw p.line p.scope p.part) (variables_in raw ps) (variables_in raw qs))

  -- a start value, members and parameters of a prototype declare no variables
  pub begun_nothing : (l : ℕ) (scope : Scope) (stand : Stand) (var : RawVar) (i : RawInit) → variables_in raw (begun_phrases l scope stand var i) ≡ []
  begun_nothing l scope stand var init.None = refl
  begun_nothing l scope stand var (init.One a) = refl
  begun_nothing l scope stand var (init.Items es) = refl

  pub members_declare : (scope : Scope) (before ms : List RawMember) → variables_in raw (member_phrases scope before ms) ≡ []
  members_declare scope before [] = refl
  members_declare scope before (m ∷ ms) = members_declare scope (before ++ m ∷ []) ms

  pub taken_declare : (scope : Scope) (before ps : List RawParam) → variables_in raw (taken_phrases scope before ps) ≡ []
  taken_declare scope before [] = refl
  taken_declare scope before (p ∷ ps) = taken_declare scope (before ++ p ∷ []) ps

  -- the phrases of a body are those of its statements in order
  pub body_in_order : (body : List RawStatement) (scope : Scope) → body_phrases raw body scope ≡ joined_at InBlock (in_order (map (scoped raw) body) scope)
  body_in_order [] scope = refl
  body_in_order (x ∷ xs) scope = ap (λ (ps : Phrases). (scoped raw x).gives scope InBlock ++ ps) (body_in_order xs ((scoped raw x).after scope))

  -- and so is the scope behind it
  pub body_after : (body : List RawStatement) (scope : Scope) → after_body raw body scope ≡ after_all (map (scoped raw) body) scope
  body_after [] scope = refl
  body_after (x ∷ xs) scope = body_after xs ((scoped raw x).after scope)

  -- ---- phrases that break no rule

  pub kept_first : (ps qs : Phrases) → AreKept raw (ps ++ qs) → AreKept raw ps
  kept_first [] qs h = tt
  kept_first (p ∷ ps) qs h = (h.0, kept_first ps qs h.1)

  pub kept_second : (ps qs : Phrases) → AreKept raw (ps ++ qs) → AreKept raw qs
  kept_second [] qs h = h
  kept_second (p ∷ ps) qs h = kept_second ps qs h.1

  pub kept_both : (ps qs : Phrases) → AreKept raw (ps ++ qs) → AreKept raw ps × AreKept raw qs
  kept_both ps qs h = (kept_first ps qs h, kept_second ps qs h)

  pub kept_joined : (ps qs : Phrases) → AreKept raw ps → AreKept raw qs → AreKept raw (ps ++ qs)
  kept_joined [] qs first second = second
  kept_joined (p ∷ ps) qs (here, first) second = (here, kept_joined ps qs first second)

  pub kept_from : (ps : Phrases) → ((p : Phrase) → Contains ps p → KeepsAll raw p) → AreKept raw ps
  kept_from [] h = tt
  kept_from (p ∷ ps) h = (h p (0, omega arith, refl), kept_from ps (λ q c. h q (suc c.0, omega (arith, c.1), c.2)))

  -- a text that keeps all rules has no phrase that breaks one
  pub phrases_kept : KeepsRules raw → AreKept raw (phrases raw)
  phrases_kept keeps = kept_from (phrases raw) (λ p c n b. keeps n p.line (IsBroken.by_phrase c b))
