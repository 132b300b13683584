-- What the layout keeps of a text keeps the rules exactly where the text does.
use Rattle.std.proofs.Common.{◌≡◌, List, [], ◌∷◌, ◌++◌, map, Bool, true, Option, Some, None, refl, sym, ap, subst, ◌∙◌}
use Rattle.std.proofs.lemmas.Bool.{and_parts}
use Rattle.std.specs.List.{AllZip}
use Rattle.c_language.specs.Lists.{all_true}
use Rattle.c_language.proofs.HeadLemmas.{ends_from, ends_told}
use Rattle.c_language.specs.HeadTests.{value_layer, returns_value, ends_with_value}
use Rattle.c_tree.specs.declared.raw.expr.RawVar.{RawVar}
use Rattle.c_tree.specs.declared.raw.program.RawInit.{RawInit}
use Rattle.c_tree.specs.declared.raw.program.RawInit.TheVariants as init
use Rattle.c_tree.specs.declared.raw.program.RawMember.{RawMember}
use Rattle.c_tree.specs.declared.raw.program.RawParam.{RawParam}
use Rattle.c_tree.specs.declared.raw.program.RawHead.{RawHead}
use Rattle.c_tree.specs.declared.raw.program.RawItem.{RawItem}
use Rattle.c_tree.specs.declared.raw.program.RawItem.TheVariants.{Include, Tag, Struct, Global, Prototype, Define}
use Rattle.c_tree.specs.declared.raw.program.RawProgram.{RawProgram}
use Rattle.c_tree.specs.declared.raw.statement.RawStatement.{RawStatement, out-RawStatement}
use Rattle.c_tree.specs.declared.raw.statement.RawStatement.TheViews.{out-roll-RawStatement, roll-out-RawStatement}
use Rattle.c_tree.specs.declared.raw.statement.RawStatement.TheOpen.{RawStatement-F}
use Rattle.c_tree.specs.declared.raw.statement.RawArm.{RawArm}
use Rattle.c_language.specs.Words.{Bytes}
use Rattle.c_language.specs.DeclaredTypes.{item_count, definition_of}
use Rattle.c_language.specs.Scopes.{Scope, outset, closed, with_function, with_named, with_parameter, with_parameters, parameter_of, scope_of_parameters, entered}
use Rattle.c_language.specs.Phrases.{InBlock, InHead, InFile, Part, Phrase, Phrases, NamesStruct, DefinesStruct, scoped, body_phrases, after_body, member_phrases, taken_phrases, parameter_phrases, head_phrases, item_phrases, after_item, items_phrases, phrases}
use Rattle.c_language.specs.Rules.{Breaks, IsBroken, KeepsRules}
use Rattle.c_language.specs.NameRules.{main_name}
use Rattle.c_language.specs.CallRules.{EndsWithValue}
use Rattle.c_text_layout.specs.Settled.{settled_var, settled, settled_member, settled_param, settled_head, settled_item}
use Rattle.c_text_layout.specs.Declarations.{declarations_pass, item_passes, items_pass}
use Rattle.c_print_laws.proofs.Alike.{pair_of, pairwise_append, pairwise_back}
use Rattle.c_print_laws.proofs.Resembling.{MembersAgree, ParamsAgree, HeadsAgree, heads_back, members_back, Resembles, resembles_back, definitions_agree}
use Rattle.c_print_laws.proofs.RuleTransfer.{VarsAgree, PartsAgree, vars_same, breaks_moves, there_none}
use Rattle.c_print_laws.proofs.Settling.{settled_program, settled_resembles, heads_agree, settled_var_agrees}
use Rattle.c_print_laws.proofs.PhraseAgreement.{Fine, kept_layer, settled_layer, PhrasesAgree, agree_append, same_phrase, variable_same, declaration_agrees, statement_agrees}

-- ---- the last statement of a function

kept_returns : (y : RawStatement-F RawStatement RawArm) → value_layer (kept_layer y) ≡ value_layer y
kept_returns (RawStatement-F.Declare l v i) = refl
kept_returns (RawStatement-F.Assign l a op b) = refl
kept_returns (RawStatement-F.Bump l a up before) = refl
kept_returns (RawStatement-F.Call l to f args) = refl
kept_returns (RawStatement-F.Heap l to cast n) = refl
kept_returns (RawStatement-F.If l a body other) = refl
kept_returns (RawStatement-F.While l a b) = refl
kept_returns (RawStatement-F.Do l a b) = refl
kept_returns (RawStatement-F.For l i a step b) = refl
kept_returns (RawStatement-F.Switch l a arms) = refl
kept_returns (RawStatement-F.Block l b) = refl
kept_returns (RawStatement-F.Return l None) = refl
kept_returns (RawStatement-F.Return l (Some a)) = refl

settled_returns : (x : RawStatement) → returns_value (settled x) ≡ returns_value x
settled_returns x =
    let y = out-RawStatement x in
    ap value_layer (ap out-RawStatement (ap settled (sym (roll-out-RawStatement x)) ∙ settled_layer y) ∙ out-roll-RawStatement (kept_layer y)) ∙ kept_returns y

settled_ends : (xs : List RawStatement) → ends_with_value (map settled xs) ≡ ends_with_value xs
settled_ends [] = refl
settled_ends (x ∷ []) = settled_returns x
settled_ends (x ∷ (y ∷ ys)) = settled_ends (y ∷ ys)

ends_kept : (xs : List RawStatement) → EndsWithValue xs → EndsWithValue (map settled xs)
ends_kept xs h = ends_from (map settled xs) (settled_ends xs ∙ ends_told h)

ends_back : (xs : List RawStatement) → EndsWithValue (map settled xs) → EndsWithValue xs
ends_back xs h = ends_from xs (sym (settled_ends xs) ∙ ends_told h)

-- ---- items

module _ (raw other : RawProgram) (like : Resembles raw other) (test : RawVar → RawInit → Bool) (fine : Fine test) where
  abbrev Agree : Phrases → Phrases → Type 0
  Agree = PhrasesAgree raw other like test fine

  pub body_after : (body : List RawStatement) → all_true (map (declarations_pass test) body) ≡ true → (scope : Scope) → after_body raw body scope ≡ after_body other (map settled body) scope
  body_after [] h scope = refl
  body_after (x ∷ xs) h scope =
      let p = and_parts (declarations_pass test x) _ h in
      body_after xs p.1 ((scoped raw x).after scope) ∙ ap (after_body other (map settled xs)) ((statement_agrees raw other like test fine x p.0).after scope)

  body_agrees : (body : List RawStatement) → all_true (map (declarations_pass test) body) ≡ true → (scope : Scope) → Agree (body_phrases raw body scope) (body_phrases other (map settled body) scope)
  body_agrees [] h scope = tt
  body_agrees (x ∷ xs) h scope =
      let p = and_parts (declarations_pass test x) _ h in
      let a = statement_agrees raw other like test fine x p.0 in
      agree_append raw other like test fine ((scoped raw x).gives scope InBlock) ((scoped other (settled x)).gives scope InBlock) _ _ (a.phrases scope InBlock)
      (subst (λ (z : Scope). Agree (body_phrases raw xs ((scoped raw x).after scope)) (body_phrases other (map settled xs) z)) (a.after scope) (body_agrees xs p.1 ((scoped raw x).after scope)))

  members_at : (scope : Scope) (before others ms : List RawMember) → AllZip MembersAgree before others → Agree (member_phrases scope before ms) (member_phrases scope others (map settled_member ms))
  members_at scope before others [] h = tt
  members_at scope before others (m ∷ ms) h =
      let a : MembersAgree m (settled_member m) = record { name = refl; shape = refl } in
      (record { scope = refl; part = PartsAgree.member h a }, members_at scope (before ++ m ∷ []) (others ++ settled_member m ∷ []) ms (pairwise_append MembersAgree before others (m ∷ []) (settled_member m ∷ []) h (a, tt)))

  taken_at : (scope : Scope) (before others ps : List RawParam) → AllZip ParamsAgree before others → Agree (taken_phrases scope before ps) (taken_phrases scope others (map settled_param ps))
  taken_at scope before others [] h = tt
  taken_at scope before others (p ∷ ps) h =
      let a : ParamsAgree p (settled_param p) = record { name = refl; shape = refl } in
      (record { scope = refl; part = PartsAgree.takes h a }, taken_at scope (before ++ p ∷ []) (others ++ settled_param p ∷ []) ps (pairwise_append ParamsAgree before others (p ∷ []) (settled_param p ∷ []) h (a, tt)))

  parameter_same : (p : RawParam) (name : Option Bytes) (scope : Scope) → with_named raw p name scope ≡ with_named other (settled_param p) name scope
  parameter_same p None scope = refl
  parameter_same p (Some name) scope = variable_same raw other like test fine scope (parameter_of p name) (parameter_of (settled_param p) name) init.None (vars_same raw other like init.None (parameter_of p name))

  parameter_agrees : (p : RawParam) (name : Option Bytes) (scope : Scope) → Agree (parameter_phrases raw p name scope) (parameter_phrases other (settled_param p) name scope)
  parameter_agrees p None scope = tt
  parameter_agrees p (Some name) scope = declaration_agrees raw other like test fine p.line 0 scope InHead (parameter_of p name) (parameter_of (settled_param p) name) init.None (vars_same raw other like init.None (parameter_of p name))

  parameters_same : (ps : List RawParam) (scope : Scope) → with_parameters raw ps scope ≡ with_parameters other (map settled_param ps) scope
  parameters_same [] scope = refl
  parameters_same (p ∷ ps) scope = parameters_same ps (with_parameter raw p scope) ∙ ap (with_parameters other (map settled_param ps)) (parameter_same p p.name scope)

  head_agrees : (ps : List RawParam) (scope : Scope) → Agree (head_phrases raw ps scope) (head_phrases other (map settled_param ps) scope)
  head_agrees [] scope = tt
  head_agrees (p ∷ ps) scope =
      agree_append raw other like test fine (parameter_phrases raw p p.name scope) (parameter_phrases other (settled_param p) p.name scope) _ _ (parameter_agrees p p.name scope)
      (subst (λ (z : Scope). Agree (head_phrases raw ps (with_parameter raw p scope)) (head_phrases other (map settled_param ps) z)) (parameter_same p p.name scope) (head_agrees ps (with_parameter raw p scope)))

  pub entered_same : (h : RawHead) (scope : Scope) → entered raw h scope ≡ entered other (settled_head h) scope
  entered_same h scope = parameters_same h.params (scope_of_parameters h scope)

  global_agrees : (v : RawVar) (i : RawInit) → test v i ≡ true → VarsAgree raw other i v (settled_var (item_count i) v)
  global_agrees v i h = settled_var_agrees raw other like i v (fine v i h)

  pub item_after : (x : RawItem) → item_passes test x ≡ true → (scope : Scope) → after_item raw x scope ≡ after_item other (settled_item x) scope
  item_after (Include is_stdlib) h scope = refl
  item_after (Tag l w) h scope = refl
  item_after (Struct l w members) h scope = refl
  item_after (Global l v i is_static) h scope = variable_same raw other like test fine scope v (settled_var (item_count i) v) i (global_agrees v i h)
  item_after (Prototype l hd) h scope = refl
  item_after (Define l hd body) h scope =
      ap (closed (with_function hd.name scope)) (body_after body h (entered raw hd scope) ∙ ap (after_body other (map settled body)) (entered_same hd scope))

  pub item_agrees : (x : RawItem) → item_passes test x ≡ true → (scope : Scope) → Agree (item_phrases raw x scope) (item_phrases other (settled_item x) scope)
  item_agrees (Include is_stdlib) h scope = tt
  item_agrees (Tag l w) h scope = (same_phrase raw other like test fine l 0 scope scope (NamesStruct w) refl, tt)
  item_agrees (Struct l w members) h scope = (same_phrase raw other like test fine l 0 scope scope (DefinesStruct w) refl, members_at scope [] [] members tt)
  item_agrees (Global l v i is_static) h scope = declaration_agrees raw other like test fine l 0 scope (InFile is_static) v (settled_var (item_count i) v) i (global_agrees v i h)
  item_agrees (Prototype l hd) h scope = (record { scope = refl; part = PartsAgree.function (heads_agree hd) }, taken_at scope [] [] hd.params tt)
  item_agrees (Define l hd body) h scope =
      let begin = scope_of_parameters hd scope in (
        record { scope = refl; part = PartsAgree.function (heads_agree hd) },
        agree_append raw other like test fine (head_phrases raw hd.params begin) (head_phrases other (map settled_param hd.params) begin) _ _ (head_agrees hd.params begin)
            (agree_append raw other like test fine (body_phrases raw body (entered raw hd scope)) (body_phrases other (map settled body) (entered other (settled_head hd) scope)) _ _
            (subst (λ (z : Scope). Agree (body_phrases raw body (entered raw hd scope)) (body_phrases other (map settled body) z)) (entered_same hd scope) (body_agrees body h (entered raw hd scope)))
            (record { scope = refl; part = PartsAgree.ends (heads_agree hd) (ends_kept body) (ends_back body) }, tt)),
      )

  items_agree : (xs : List RawItem) → items_pass test xs ≡ true → (scope : Scope) → Agree (items_phrases raw xs scope) (items_phrases other (map settled_item xs) scope)
  items_agree [] h scope = tt
  items_agree (x ∷ xs) h scope =
      let p = and_parts (item_passes test x) (items_pass test xs) h in
      agree_append raw other like test fine (item_phrases raw x scope) (item_phrases other (settled_item x) scope) _ _ (item_agrees x p.0 scope)
      (subst (λ (z : Scope). Agree (items_phrases raw xs (after_item raw x scope)) (items_phrases other (map settled_item xs) z)) (item_after x p.0 scope) (items_agree xs p.1 (after_item raw x scope)))

-- ---- rules

-- two phrases agree
abbrev pub Meet : RawProgram → RawProgram → Phrase → Phrase → Type 0
Meet raw other a b = (a.scope ≡ b.scope) × PartsAgree raw other a.part b.part

vars_back : (raw other : RawProgram) (i : RawInit) (v w : RawVar) → VarsAgree raw other i v w → VarsAgree other raw i w v
vars_back raw other i v w h = record { name = sym h.name; type = sym h.type; tree = sym h.tree; tag = sym h.tag; left = h.right; right = h.left }

parts_back : {raw other : RawProgram} {a b : Part} → PartsAgree raw other a b → PartsAgree other raw b a
parts_back PartsAgree.same = PartsAgree.same
parts_back {raw} {other} (PartsAgree.declares {v} {w} {i} h) = PartsAgree.declares (vars_back raw other i v w h)
parts_back {raw} {other} (PartsAgree.begins {v} {w} {i} h) = PartsAgree.begins (vars_back raw other i v w h)
parts_back (PartsAgree.member {before} {others} {m} {k} h r) = PartsAgree.member (pairwise_back MembersAgree MembersAgree members_back before others h) (members_back m k r)
parts_back (PartsAgree.function {h} {k} r) = PartsAgree.function (heads_back h k r)
parts_back (PartsAgree.takes {before} {others} {p} {q} h r) =
    PartsAgree.takes (pairwise_back ParamsAgree ParamsAgree (λ a b x. record { name = sym x.name; shape = sym x.shape }) before others h) (record { name = sym r.name; shape = sym r.shape })
parts_back (PartsAgree.ends {h} {k} r to back) = PartsAgree.ends (heads_back h k r) back to

rules_move : (raw other : RawProgram) → Resembles raw other → AllZip (Meet raw other) (phrases raw) (phrases other) → KeepsRules raw → KeepsRules other
rules_move raw other like agree keeps n l (IsBroken.by_phrase {p} c b) =
    let x = pair_of (Meet raw other) (phrases raw) (phrases other) p agree c in
    keeps n x.left.line (IsBroken.by_phrase x.stands (breaks_moves raw other like x.left.scope x.related.1 (subst (λ (z : Scope). Breaks other z p.part n) (sym x.related.0) b)))
rules_move raw other like agree keeps n l (IsBroken.no_main h) =
    keeps 5 1 (IsBroken.no_main (there_none HeadsAgree (definition_of raw main_name) (definition_of other main_name) (definitions_agree raw other like main_name) h))

module _ (raw : RawProgram) (test : RawVar → RawInit → Bool) (fine : Fine test) (pass : items_pass test raw.items ≡ true) where
  pub settled_meets : AllZip (Meet raw (settled_program raw)) (phrases raw) (phrases (settled_program raw))
  settled_meets =
      let like = settled_resembles raw in
      weaker (phrases raw) (phrases (settled_program raw)) (items_agree raw (settled_program raw) like test fine raw.items pass outset)
    where
      weaker : (ps qs : Phrases) → PhrasesAgree raw (settled_program raw) (settled_resembles raw) test fine ps qs → AllZip (Meet raw (settled_program raw)) ps qs
      weaker [] [] h = tt
      weaker [] (q ∷ qs) h = absurd h
      weaker (p ∷ ps) [] h = absurd h
      weaker (p ∷ ps) (q ∷ qs) h = ((h.0.scope, h.0.part), weaker ps qs h.1)

  -- What the layout keeps of a text that keeps all rules keeps them.
  pub settled_keeps : KeepsRules raw → KeepsRules (settled_program raw)
  settled_keeps = rules_move raw (settled_program raw) (settled_resembles raw) settled_meets

  -- A text keeps all rules where what the layout keeps of it does.
  pub kept_by_settled : KeepsRules (settled_program raw) → KeepsRules raw
  kept_by_settled =
      rules_move (settled_program raw) raw (resembles_back raw (settled_program raw) (settled_resembles raw))
      (pairwise_back (Meet raw (settled_program raw)) (Meet (settled_program raw) raw) (λ a b h. (sym h.0, parts_back h.1)) (phrases raw) (phrases (settled_program raw)) settled_meets)
