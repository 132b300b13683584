-- What is read as a statement is one.
use Rattle.std.proofs.Common.{◌≡◌, ℕ, zero, suc, List, [], ◌∷◌, ◌++◌, append_assoc, append-nil, length, drop, refl, sym, ap, subst, ◌∙◌, true, false, Bool, Option, Ok, codes, ◌==◌}
use Rattle.c_tree.specs.declared.raw.expr.RawExpr.{RawExpr}
use Rattle.c_tree.specs.declared.raw.expr.RawType.{RawType}
use Rattle.c_tree.specs.declared.raw.statement.RawLabel.{RawLabel}
use Rattle.c_tree.specs.declared.raw.statement.RawArm.{RawArm}
use Rattle.c_tree.specs.declared.raw.statement.RawStatement.{RawStatement}
use Rattle.c_language.specs.TokenForms.{Tokens, name, mark, line_of}
use Rattle.c_language.specs.Sees.{sees}
use Rattle.c_language.specs.StatementGrammar.{IsSimple, IsDeclared, IsDeclaration, IsInit, IsStep, IsLabel, AreLabels, IsTest, test, arm, IsStatement, AreStatements, IsBody, IsElse, AreArms}
use Rattle.c_language.specs.declared.token.TokenKind.TheVariants.{Name, Mark}
use Rattle.c_parse_expr.specs.Outcome.{Parser, expect}
use Rattle.c_parse_expr.specs.ExprReading.{nested, expression}
use Rattle.c_parse_expr.specs.TypeReading.{begins_type, base}
use Rattle.c_parse_statements.specs.StatementReading as r
use Rattle.c_parse_simple.specs.SimpleReading as reading
use Rattle.c_parse_simple.specs.SimpleReading.{word, nested_simple, nested_declared, nested_declaration}
use Rattle.c_parse_statements.specs.StatementReading.{condition, for_declared, for_simple, for_init, for_step, sees_label, label, labels_from, labels, is_at_end, simple_statement, returned, listed, statements_from, statements, braced, body, alternative, arm_end, arm_of, arms_from, statement_with, nested_statement}
use Rattle.c_parse_words.proofs.SeenTokens.{by_seen}
use Rattle.c_parse_expr.proofs.Tests.{by_step, by_expect, ok_parts, with_parts}
use Rattle.c_parse_expr.proofs.TypeSound.{base_sound}
use Rattle.c_parse_simple.proofs.CallSound.{expression_is, nested_is, by_word}
use Rattle.c_parse_simple.proofs.SimpleSound.{simple_sound, declared_sound, declaration_sound}
use Rattle.c_language.proofs.Tests.{by_test}

pub test_sound : (d : ℕ) (ts : Tokens) (a : RawExpr) (rest : Tokens) → condition d ts ≡ Ok (a, rest) → IsTest ts a rest
unfolding condition
test_sound d ts a rest h =
    by_step (expect (codes "(") ts) _ h (λ u mid opened h.
    by_expect (codes "(") ts mid u opened (λ l at. rw at (
    by_step (nested d 1 mid) _ h (λ x after went h.
    by_step (expect (codes ")") after) _ h (λ v last closed h.
    by_expect (codes ")") after last v closed (λ k close.
    with_parts (λ b r. IsTest (mark (codes "(") l ∷ mid) b r) h (test (rw close at (nested_is d mid x after went)))))))))

nested_simple_sound : (d : ℕ) (ts : Tokens) (a : RawStatement) (rest : Tokens) → nested_simple d ts ≡ Ok (a, rest) → IsSimple ts a rest
unfolding nested_simple
nested_simple_sound zero ts a rest h = absurd cc
nested_simple_sound (suc d) ts a rest h = simple_sound d ts a rest h

nested_declared_sound : (d : ℕ) (line : ℕ) (b : RawType) (ts : Tokens) (a : RawStatement) (rest : Tokens) → nested_declared d line b ts ≡ Ok (a, rest) → IsDeclared line b ts a rest
unfolding nested_declared
nested_declared_sound zero line b ts a rest h = absurd cc
nested_declared_sound (suc d) line b ts a rest h = declared_sound d line b ts a rest h

pub nested_declaration_sound : (d : ℕ) (ts : Tokens) (all : List RawStatement) (rest : Tokens) → nested_declaration d ts ≡ Ok (all, rest) → IsDeclaration ts all rest
unfolding nested_declaration
nested_declaration_sound zero ts all rest h = absurd cc
nested_declaration_sound (suc d) ts all rest h = declaration_sound d ts all rest h

pub init_sound : (d : ℕ) (ts : Tokens) (a : Option RawStatement) (rest : Tokens) → for_init d ts ≡ Ok (a, rest) → IsInit ts a rest
unfolding for_init for_declared for_simple
init_sound d ts a rest h = by_test (sees Mark (codes ";") ts) h
    (λ is h. by_seen Mark (codes ";") ts is (λ l mid at. rw at (with_parts (λ b r. IsInit (mark (codes ";") l ∷ mid) b r) (rw at at h) IsInit.nothing)))
    (λ _ h. by_test (begins_type ts) h
    (λ _ h. by_step (base ts) _ h (λ b mid went h.
    by_step (nested_declared d (line_of ts) b mid) _ h (λ x after went2 h.
    by_step (expect (codes ";") after) _ h (λ u last closed h.
    by_expect (codes ";") after last u closed (λ l at.
    with_parts (λ b r. IsInit ts b r) h (IsInit.declared (base_sound ts mid b went) (rw at at (nested_declared_sound d (line_of ts) b mid x after went2))))))))
    (λ _ h. by_step (nested_simple d ts) _ h (λ x mid went h.
    by_step (expect (codes ";") mid) _ h (λ u after closed h.
    by_expect (codes ";") mid after u closed (λ l at.
    with_parts (λ b r. IsInit ts b r) h (IsInit.simple (rw at at (nested_simple_sound d ts x mid went))))))))

pub step_sound : (d : ℕ) (ts : Tokens) (a : Option RawStatement) (rest : Tokens) → for_step d ts ≡ Ok (a, rest) → IsStep ts a rest
unfolding for_step for_simple
step_sound d ts a rest h = by_test (sees Mark (codes ")") ts) h
    (λ is h. by_seen Mark (codes ")") ts is (λ l mid at. rw at (with_parts (λ b r. IsStep (mark (codes ")") l ∷ mid) b r) (rw at at h) IsStep.nothing)))
    (λ _ h. by_step (nested_simple d ts) _ h (λ x mid went h.
    by_step (expect (codes ")") mid) _ h (λ u after closed h.
    by_expect (codes ")") mid after u closed (λ l at.
    with_parts (λ b r. IsStep ts b r) h (IsStep.simple (rw at at (nested_simple_sound d ts x mid went)))))))

pub label_sound : (d : ℕ) (ts : Tokens) (a : RawLabel) (rest : Tokens) → label d ts ≡ Ok (a, rest) → IsLabel ts a rest
unfolding label
label_sound d ts a rest h = by_test (sees Name (codes "case") ts) h
    (λ is h. by_seen Name (codes "case") ts is (λ l mid at. rw at (
    by_step (nested d 1 mid) _ (rw at at h) (λ x after went h.
    by_step (expect (codes ":") after) _ h (λ u last closed h.
    by_expect (codes ":") after last u closed (λ k at2.
    with_parts (λ b r. IsLabel (name (codes "case") l ∷ mid) b r) h (IsLabel.case (rw at2 at (nested_is d mid x after went)))))))))
    (λ _ h. by_step (word (codes "default") ts) _ h (λ u mid begun h.
    by_word (codes "default") ts mid u begun (λ l at. rw at (
    by_step (expect (codes ":") mid) _ h (λ v after closed h.
    by_expect (codes ":") mid after v closed (λ k at2. rw at2 (
    with_parts (λ b r. IsLabel (name (codes "default") l ∷ mark (codes ":") k ∷ after) b r) h IsLabel.default)))))))

record LabelsRead (found : List RawLabel) (ts : Tokens) (all : List RawLabel) (rest : Tokens) : Type 0 where
  added : List RawLabel
  is : AreLabels ts added rest
  same : all ≡ found ++ added

labels_read : (d turns : ℕ) (found : List RawLabel) (ts : Tokens) (all : List RawLabel) (rest : Tokens) → labels_from d turns found ts ≡ Ok (all, rest) → LabelsRead found ts all rest
unfolding labels_from
labels_read d zero found ts all rest h = absurd cc
labels_read d (suc turns) found ts all rest h =
    by_step (label d ts) _ h (λ a mid went h.
    by_test (sees_label mid) h
    (λ _ h. let x = labels_read d turns (found ++ a ∷ []) mid all rest h in
    record { added = a ∷ x.added; is = AreLabels.more (label_sound d ts a mid went) x.is; same = x.same ∙ append_assoc found (a ∷ []) x.added })
    (λ _ h. with_parts (λ b r. LabelsRead found ts b r) h (record { added = a ∷ []; is = AreLabels.last (label_sound d ts a mid went); same = refl })))

pub labels_sound : (d : ℕ) (ts : Tokens) (all : List RawLabel) (rest : Tokens) → labels d ts ≡ Ok (all, rest) → AreLabels ts all rest
labels_sound d ts all rest h = let x = labels_read d (length ts) [] ts all rest h in subst (λ b. AreLabels ts b rest) (sym x.same) x.is

simple_statement_sound : (d : ℕ) (ts : Tokens) (a : RawStatement) (rest : Tokens) → simple_statement d ts ≡ Ok (a, rest) → IsStatement ts a rest
unfolding simple_statement
simple_statement_sound d ts a rest h =
    by_step (reading.simple d ts) _ h (λ x mid went h.
    by_step (expect (codes ";") mid) _ h (λ u after closed h.
    by_expect (codes ";") mid after u closed (λ l at.
    with_parts (λ b r. IsStatement ts b r) h (IsStatement.simple (rw at at (simple_sound d ts x mid went))))))

returned_sound : (d line : ℕ) (ts : Tokens) (a : RawStatement) (rest : Tokens) → returned d line ts ≡ Ok (a, rest) → IsStatement (name (codes "return") line ∷ ts) a rest
unfolding returned
returned_sound d line ts a rest h = by_test (sees Mark (codes ";") ts) h
    (λ is h. by_seen Mark (codes ";") ts is (λ l mid at. rw at (with_parts (λ b r. IsStatement (name (codes "return") line ∷ mark (codes ";") l ∷ mid) b r) (rw at at h) IsStatement.returns)))
    (λ _ h. by_step (expression d 1 ts) _ h (λ x mid went h.
    by_step (expect (codes ";") mid) _ h (λ u after closed h.
    by_expect (codes ";") mid after u closed (λ l at.
    with_parts (λ b r. IsStatement (name (codes "return") line ∷ ts) b r) h (IsStatement.returns_value (rw at at (expression_is d ts x mid went)))))))

abbrev pub IsSoundly : Parser RawStatement → Type 0
IsSoundly inner = (ts : Tokens) (a : RawStatement) (rest : Tokens) → inner ts ≡ Ok (a, rest) → IsStatement ts a rest

-- what was added to the statements of a list
record StatementsRead (found : List RawStatement) (ts : Tokens) (all : List RawStatement) (rest : Tokens) : Type 0 where
  added : List RawStatement
  is : AreStatements ts added rest
  same : all ≡ found ++ added

nothing_read : (found : List RawStatement) (ts : Tokens) → StatementsRead found ts found ts
nothing_read found ts = record { added = []; is = AreStatements.done; same = sym (append-nil found) }

-- what was added to the arms of a switch
record ArmsRead (found : List RawArm) (ts : Tokens) (all : List RawArm) (rest : Tokens) : Type 0 where
  added : List RawArm
  is : AreArms ts added rest
  same : all ≡ found ++ added

module _ (inner : Parser RawStatement) (d : ℕ) (sound : IsSoundly inner) where
  statements_read : (turns : ℕ) (found : List RawStatement) (ts : Tokens) (all : List RawStatement) (rest : Tokens) → statements_from inner d turns found ts ≡ Ok (all, rest) → StatementsRead found ts all rest
  unfolding statements_from listed
  statements_read zero found ts all rest h = with_parts (λ b r. StatementsRead found ts b r) h (nothing_read found ts)
  statements_read (suc turns) found ts all rest h = by_test (is_at_end ts) h
      (λ _ h. with_parts (λ b r. StatementsRead found ts b r) h (nothing_read found ts))
      (λ _ h. by_step (listed inner d ts) _ h (λ some mid went h.
      let x = statements_read turns (found ++ some) mid all rest h in
      by_test (sees Mark (codes ";") ts) went
      (λ is went. by_seen Mark (codes ";") ts is (λ l after at.
      let p = ok_parts (rw at at went) in
      rw at (record { added = x.added; is = AreStatements.empty (subst (λ r. AreStatements r x.added rest) (sym p.1) x.is); same = x.same ∙ (ap (λ y. (found ++ y) ++ x.added) (sym p.0) ∙ ap (λ y. y ++ x.added) (append-nil found)) })))
      (λ _ went. by_test (begins_type ts) went
      (λ _ went. record { added = some ++ x.added; is = AreStatements.declared (nested_declaration_sound d ts some mid went) x.is; same = x.same ∙ append_assoc found some x.added })
      (λ _ went. by_step (inner ts) _ went (λ a after went2 went.
      let p = ok_parts went in
      record {
        added = a ∷ x.added;
        is = AreStatements.more (sound ts a after went2) (subst (λ r. AreStatements r x.added rest) (sym p.1) x.is);
        same = x.same ∙ (ap (λ y. (found ++ y) ++ x.added) (sym p.0) ∙ append_assoc found (a ∷ []) x.added);
      })))))

  pub statements_sound : (ts : Tokens) (all : List RawStatement) (rest : Tokens) → statements inner d ts ≡ Ok (all, rest) → AreStatements ts all rest
  statements_sound ts all rest h = let x = statements_read (length ts) [] ts all rest h in subst (λ b. AreStatements ts b rest) (sym x.same) x.is

  pub braced_sound : (ts : Tokens) (all : List RawStatement) (rest : Tokens) → braced inner d ts ≡ Ok (all, rest) → (k : ℕ) × AreStatements ts all (mark (codes "}") k ∷ rest)
  unfolding braced
  braced_sound ts all rest h =
      by_step (statements inner d ts) _ h (λ some mid went h.
      by_step (expect (codes "}") mid) _ h (λ u after closed h.
      by_expect (codes "}") mid after u closed (λ k at.
      with_parts (λ b r. (k : ℕ) × AreStatements ts b (mark (codes "}") k ∷ r)) h (k, rw at at (statements_sound ts some mid went)))))

  pub body_sound : (ts : Tokens) (all : List RawStatement) (rest : Tokens) → body inner d ts ≡ Ok (all, rest) → IsBody ts all rest
  unfolding body
  body_sound ts all rest h = by_test (sees Mark (codes "{") ts) h
      (λ is h. by_seen Mark (codes "{") ts is (λ l mid at. rw at (IsBody.braces (braced_sound mid all rest (rw at at h)).1)))
      (λ brace h. by_test (sees Mark (codes ";") ts) h
      (λ is h. by_seen Mark (codes ";") ts is (λ l mid at. rw at (with_parts (λ b r. IsBody (mark (codes ";") l ∷ mid) b r) (rw at at h) IsBody.nothing)))
      (λ _ h. by_step (inner ts) _ h (λ a mid went h. with_parts (λ b r. IsBody ts b r) h (IsBody.single brace (sound ts a mid went)))))

  pub else_sound : (ts : Tokens) (all : List RawStatement) (rest : Tokens) → alternative inner d ts ≡ Ok (all, rest) → IsElse ts all rest
  unfolding alternative
  else_sound ts all rest h = by_test (sees Name (codes "else") ts) h
      (λ is h. by_seen Name (codes "else") ts is (λ l mid at. rw at (IsElse.otherwise (body_sound mid all rest (rw at at h)))))
      (λ isnt h. with_parts (λ b r. IsElse ts b r) h (IsElse.without isnt))

  if_sound : (line : ℕ) (ts : Tokens) (a : RawStatement) (rest : Tokens) → r.conditional inner d line ts ≡ Ok (a, rest) → IsStatement (name (codes "if") line ∷ ts) a rest
  unfolding r.conditional
  if_sound line ts a rest h =
      by_step (condition d ts) _ h (λ t mid went h.
      by_step (body inner d mid) _ h (λ all after went2 h.
      by_step (alternative inner d after) _ h (λ other last went3 h.
      with_parts (λ b r. IsStatement (name (codes "if") line ∷ ts) b r) h (IsStatement.conditional (test_sound d ts t mid went) (body_sound mid all after went2) (else_sound after other last went3)))))

  while_sound : (line : ℕ) (ts : Tokens) (a : RawStatement) (rest : Tokens) → r.while_loop inner d line ts ≡ Ok (a, rest) → IsStatement (name (codes "while") line ∷ ts) a rest
  unfolding r.while_loop
  while_sound line ts a rest h =
      by_step (condition d ts) _ h (λ t mid went h.
      by_step (body inner d mid) _ h (λ all after went2 h.
      with_parts (λ b r. IsStatement (name (codes "while") line ∷ ts) b r) h (IsStatement.while_loop (test_sound d ts t mid went) (body_sound mid all after went2))))

  do_sound : (line : ℕ) (ts : Tokens) (a : RawStatement) (rest : Tokens) → r.do_loop inner d line ts ≡ Ok (a, rest) → IsStatement (name (codes "do") line ∷ ts) a rest
  unfolding r.do_loop
  do_sound line ts a rest h =
      by_step (body inner d ts) _ h (λ all mid went h.
      by_step (word (codes "while") mid) _ h (λ u after begun h.
      by_word (codes "while") mid after u begun (λ m at.
      by_step (condition d after) _ h (λ t last went2 h.
      by_step (expect (codes ";") last) _ h (λ v next closed h.
      by_expect (codes ";") last next v closed (λ k at2.
      with_parts (λ b r. IsStatement (name (codes "do") line ∷ ts) b r) h
      (IsStatement.do_loop (rw at at (body_sound ts all mid went)) (rw at2 at (test_sound d after t last went2)))))))))

  for_sound : (line : ℕ) (ts : Tokens) (a : RawStatement) (rest : Tokens) → r.for_loop inner d line ts ≡ Ok (a, rest) → IsStatement (name (codes "for") line ∷ ts) a rest
  unfolding r.for_loop
  for_sound line ts a rest h =
      by_step (expect (codes "(") ts) _ h (λ u mid opened h.
      by_expect (codes "(") ts mid u opened (λ m at. rw at (
      by_step (for_init d mid) _ h (λ first after went h.
      by_step (nested d 1 after) _ h (λ t next went2 h.
      by_step (expect (codes ";") next) _ h (λ v past closed h.
      by_expect (codes ";") next past v closed (λ k at2.
      by_step (for_step d past) _ h (λ step beyond went3 h.
      by_step (body inner d beyond) _ h (λ all last went4 h.
      with_parts (λ b r. IsStatement (name (codes "for") line ∷ mark (codes "(") m ∷ mid) b r) h
      (IsStatement.for_loop (init_sound d mid first after went) (rw at2 at (nested_is d after t next went2)) (step_sound d past step beyond went3) (body_sound beyond all last went4)))))))))))

  -- An arm with its break goes before any arms, and one without is the last.
  end_sound : {G : Type 0} (marks : List RawLabel) (all : List RawStatement) (ts mid here : Tokens) (x : RawArm × Bool) (rest : Tokens) → AreLabels ts marks mid → AreStatements mid all here
      → arm_end inner d (sees Mark (codes "}") mid) marks all here ≡ Ok (x, rest)
      → (x.1 ≡ true → ((arms : List RawArm) (last : Tokens) → AreArms rest arms last → AreArms ts (x.0 ∷ arms) last) → G) → (x.1 ≡ false → AreArms ts (x.0 ∷ []) rest → G) → G
  unfolding arm_end
  end_sound marks all ts mid here x rest labelled are h broken whole = by_test (sees Name (codes "break") here) h
      (λ is h. by_seen Name (codes "break") here is (λ l after at.
      by_step (expect (codes ";") (drop 1 here)) _ h (λ u past closed h.
      let e : drop 1 here ≡ after = ap (drop 1) at in
      by_expect (codes ";") after past u (rw e at closed) (λ m at2.
      let p = ok_parts h in
      let whole_ : AreStatements mid all (name (codes "break") l ∷ mark (codes ";") m ∷ past) = subst (λ r. AreStatements mid all r) (at ∙ ap (λ r. name (codes "break") l ∷ r) at2) are in
      broken (sym (ap (λ (y : RawArm × Bool). y.1) p.0))
      (λ arms last more. subst (λ (y : RawArm × Bool). AreArms ts (y.0 ∷ arms) last) p.0 (AreArms.broken labelled whole_ (subst (λ r. AreArms r arms last) (sym p.1) more)))))))
      (λ _ h. by_test (sees Mark (codes "}") mid) h (λ _ h. absurd cc)
      (λ some h. by_step (expect (codes "}") here) _ h (λ u past closed h.
      by_expect (codes "}") here past u closed (λ l at.
      let p = ok_parts h in
      let whole_ : AreStatements mid all (mark (codes "}") l ∷ past) = rw at at are in
      whole (sym (ap (λ (y : RawArm × Bool). y.1) p.0))
      (subst (λ (y : RawArm × Bool). AreArms ts (y.0 ∷ []) rest) p.0 (subst (λ r. AreArms ts (arm marks all ∷ []) r) p.1 (AreArms.unbroken labelled some whole_)))))))

  pub arm_sound : {G : Type 0} (ts : Tokens) (x : RawArm × Bool) (rest : Tokens) → arm_of inner d ts ≡ Ok (x, rest)
      → (x.1 ≡ true → ((arms : List RawArm) (last : Tokens) → AreArms rest arms last → AreArms ts (x.0 ∷ arms) last) → G) → (x.1 ≡ false → AreArms ts (x.0 ∷ []) rest → G) → G
  unfolding arm_of
  arm_sound ts x rest h broken whole =
      by_step (labels d ts) _ h (λ marks mid went h.
      by_step (statements inner d mid) _ h (λ all here went2 h.
      end_sound marks all ts mid here x rest (labels_sound d ts marks mid went) (statements_sound mid all here went2) h broken whole))

  arms_read : (turns : ℕ) (found : List RawArm) (ts : Tokens) (all : List RawArm) (rest : Tokens) → arms_from inner d turns found ts ≡ Ok (all, rest) → ArmsRead found ts all rest
  unfolding arms_from
  arms_read zero found ts all rest h = absurd cc
  arms_read (suc turns) found ts all rest h = by_test (sees Mark (codes "}") ts) h
      (λ is h. by_seen Mark (codes "}") ts is (λ l mid at. rw at (
      with_parts (λ b r. ArmsRead found (mark (codes "}") l ∷ mid) b r) (rw at at h) (record { added = []; is = AreArms.none; same = sym (append-nil found) }))))
      (λ _ h. by_step (arm_of inner d ts) _ h (λ x mid went h.
      by_test x.1 h
      (λ more h. arm_sound ts x mid went
      (λ _ before. let y = arms_read turns (found ++ x.0 ∷ []) mid all rest h in
      record { added = x.0 ∷ y.added; is = before y.added rest y.is; same = y.same ∙ append_assoc found (x.0 ∷ []) y.added })
      (λ last _. absurd (let f : true ≡ false = sym more ∙ last in cc)))
      (λ last h. arm_sound ts x mid went
      (λ more _. absurd (let f : true ≡ false = sym more ∙ last in cc))
      (λ _ is. with_parts (λ b r. ArmsRead found ts b r) h (record { added = x.0 ∷ []; is = is; same = refl })))))

  switch_sound : (line : ℕ) (ts : Tokens) (a : RawStatement) (rest : Tokens) → r.switch inner d line ts ≡ Ok (a, rest) → IsStatement (name (codes "switch") line ∷ ts) a rest
  unfolding r.switch
  switch_sound line ts a rest h =
      by_step (condition d ts) _ h (λ t mid went h.
      by_step (expect (codes "{") mid) _ h (λ u after opened h.
      by_expect (codes "{") mid after u opened (λ m at.
      by_step (arms_from inner d (length after) [] after) _ h (λ arms last went2 h.
      let x = arms_read (length after) [] after arms last went2 in
      with_parts (λ b r. IsStatement (name (codes "switch") line ∷ ts) b r) h
      (IsStatement.switch (rw at at (test_sound d ts t mid went)) (subst (λ y. AreArms after y last) (sym x.same) x.is))))))

  block_sound : (line : ℕ) (ts : Tokens) (a : RawStatement) (rest : Tokens) → r.block inner d line ts ≡ Ok (a, rest) → IsStatement (mark (codes "{") line ∷ ts) a rest
  unfolding r.block
  block_sound line ts a rest h = by_test (d == 0) h (λ _ h. absurd cc)
      (λ _ h. by_step (braced inner d ts) _ h (λ all mid went h.
      with_parts (λ b r. IsStatement (mark (codes "{") line ∷ ts) b r) h (IsStatement.block (braced_sound ts all mid went).1)))

  statement_sound : (ts : Tokens) (a : RawStatement) (rest : Tokens) → statement_with inner d ts ≡ Ok (a, rest) → IsStatement ts a rest
  unfolding statement_with
  statement_sound ts a rest h = by_test (sees Name (codes "if") ts) h
      (λ is h. by_seen Name (codes "if") ts is (λ l mid at. rw at (if_sound l mid a rest (rw at at h))))
      (λ _ h. by_test (sees Name (codes "while") ts) h
      (λ is h. by_seen Name (codes "while") ts is (λ l mid at. rw at (while_sound l mid a rest (rw at at h))))
      (λ _ h. by_test (sees Name (codes "do") ts) h
      (λ is h. by_seen Name (codes "do") ts is (λ l mid at. rw at (do_sound l mid a rest (rw at at h))))
      (λ _ h. by_test (sees Name (codes "for") ts) h
      (λ is h. by_seen Name (codes "for") ts is (λ l mid at. rw at (for_sound l mid a rest (rw at at h))))
      (λ _ h. by_test (sees Name (codes "switch") ts) h
      (λ is h. by_seen Name (codes "switch") ts is (λ l mid at. rw at (switch_sound l mid a rest (rw at at h))))
      (λ _ h. by_test (sees Name (codes "return") ts) h
      (λ is h. by_seen Name (codes "return") ts is (λ l mid at. rw at (returned_sound d l mid a rest (rw at at h))))
      (λ _ h. by_test (sees Mark (codes "{") ts) h
      (λ is h. by_seen Mark (codes "{") ts is (λ l mid at. rw at (block_sound l mid a rest (rw at at h))))
      (λ _ h. simple_statement_sound d ts a rest h)))))))

pub nested_statement_sound : (d : ℕ) → IsSoundly (nested_statement d)
unfolding nested_statement
nested_statement_sound zero ts a rest h = absurd cc
nested_statement_sound (suc d) ts a rest h = statement_sound (nested_statement d) d (nested_statement_sound d) ts a rest h
