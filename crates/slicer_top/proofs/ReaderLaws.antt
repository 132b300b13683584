-- A text has one tree and one program, and what is answered for it is fixed.
--
-- A cause that exists for some program or tree is turned into c_reader's `IsAnswer` (`answered`), whose laws tell of a given one.
use Rattle.std.proofs.Common.{◌≡◌, length, ◌≤◌, ◌<◌, Err, Option, Some, refl, sym, ap, subst, ◌∙◌, arith}
use Rattle.c_tree.specs.declared.limits.LimitName.{LimitName}
use Rattle.c_tree.specs.declared.limits.LimitName.TheVariants as limit
use Rattle.c_tree.specs.declared.program.Program.{Program}
use Rattle.c_tree.specs.declared.raw.program.RawProgram.{RawProgram}
use Rattle.c_language.specs.Words.{Bytes}
use Rattle.c_language.specs.TokenForms.{Tokens}
use Rattle.c_language.specs.Tokens.{AreTokensOf}
use Rattle.c_language.specs.ItemGrammar.{IsProgram}
use Rattle.c_language.specs.StatementNesting.{program_nesting}
use Rattle.c_language.specs.Limits.{array_length, object_cells}
use Rattle.c_language.specs.Programs as programs
use Rattle.c_language.specs.Rules.{IsBroken}
use Rattle.c_lex.proofs.TokenLaws.{tokens_unique}
use Rattle.c_parse.proofs.ParserLaws.{one_tree}
use Rattle.call_words.specs.Requests.{Asked, lines_in}
use Rattle.c_types.specs.Checker.{IsAbove}
use Rattle.c_types.proofs.CheckerLaws.{rules_hold, one_quantity}
use Rattle.c_reader.specs.Reading.{ReadsProgram, ReadsTree}
use Rattle.c_reader.specs.Refusals.{IsRight, Gives, IsTooDeep, IsChecked, IsAnswer, HasRuleFault, IsRuleFault}
use Rattle.c_types.specs.declared.rule_fault.RuleFault.{RuleFault}
use Rattle.c_types.specs.declared.rule_fault.RuleFault.TheVariants as rule
use Rattle.c_reader.specs.declared.refusal.ReadRefusal.{ReadRefusal}
use Rattle.c_reader.specs.declared.refusal.ReadRefusal.TheVariants.{Lex, Parse, Check, NoMemory}
use Rattle.c_reader.proofs.ReadLaws as laws
use Rattle.c_reader.proofs.ReadLaws.{tree_of_program}
use Rattle.slice_engine.specs.GraphLimits.{IsAboveGraphLimit, locations, vertices, words}
use Rattle.slicer_top.specs.Limits.{IsAboveLimit}
use Rattle.slicer_top.specs.Slices.{HasGraph, IsAboveFor}

-- what is above for something that is asked is above in the graph
pub above_graph : (asked : Asked) (p : Program) (name : LimitName) → IsAboveFor asked p name → IsAboveGraphLimit p name
above_graph (Asked.slice file lines workers) p name above = above
above_graph (Asked.trace file lines input steps) p name above = absurd above
above_graph (Asked.run file input steps) p name above = absurd above
above_graph (Asked.graph file workers) p name above = above
above_graph (Asked.members file line workers) p name above = above
above_graph (Asked.big seed size workers) p name above = above
above_graph (Asked.forward file line workers) p name above = above
above_graph (Asked.chop file from to workers) p name above = above

module _ (text : Bytes) where
  -- the tokens of a text are those of its tree
  pub grammar_of : (ts : Tokens) (raw : RawProgram) → AreTokensOf text ts → ReadsTree text raw → IsProgram ts raw
  grammar_of ts raw are h = subst (λ us. IsProgram us raw) (tokens_unique text h.tokens ts h.are are) h.tree.grammar

  -- a text has one tree
  pub one_text_tree : (a b : RawProgram) → ReadsTree text a → ReadsTree text b → a ≡ b
  one_text_tree a b h k = one_tree k.tokens a b (grammar_of k.tokens a k.are h) k.tree.grammar

  same_program : (raw : RawProgram) (p q : Program) → programs.HasProgram raw p → programs.HasProgram raw q → p ≡ q
  same_program raw p q h k = let e : ◌≡◌ {A = Option Program} (Some p) (Some q) = sym h.program ∙ k.program in cc

  -- a text has one program
  pub one_program : (p q : Program) → ReadsProgram text p → ReadsProgram text q → p ≡ q
  one_program p q h k =
      same_program k.raw p q (subst (λ raw. programs.HasProgram raw p) (one_text_tree h.raw k.raw (tree_of_program text h) (tree_of_program text k)) h.accepted.has) k.accepted.has

  -- and that is well formed
  pub well_formed : (p : Program) → ReadsProgram text p → programs.IsWellFormed p
  well_formed p has =
      record { raw = has.raw; same = p; tree = record { tokens = has.accepted.tokens; is = has.accepted.tree }; has = has.accepted.has; within = has.within; but_lines = refl }

  -- a refusal that the text shows is one that is answered for its tokens and its tree
  answered : (r : ReadRefusal) → IsRight text (Err r) → IsAnswer text (Err r)
  answered (Lex fault) is = is
  answered (Parse fault) is = is
  answered (Check fault) is = (
    is.tree.tokens,
    is.raw,
    record {
      are = is.tree.are;
      read = record {
        tree = is.tree.tree;
        only = λ other also. one_tree is.tree.tokens is.raw other is.tree.tree.grammar also;
        nesting = is.nesting;
      };
    },
    is.shows,
    is.first,
  )
  answered NoMemory is = tt

  -- a text with a program is refused for want of memory alone
  pub only_memory : (r : ReadRefusal) → IsRight text (Err r) → (p : Program) → ReadsProgram text p → Gives p (Err r)
  only_memory r is p has = laws.accepted text (Err r) (answered r is) p has

  pub only_nesting : (r : ReadRefusal) → IsRight text (Err r) → (raw : RawProgram) → ReadsTree text raw → 100 < program_nesting raw → IsTooDeep (Err r)
  only_nesting r is raw tree many = laws.deep text (Err r) (answered r is) raw tree many

  pub only_check : (r : ReadRefusal) → IsRight text (Err r) → (raw : RawProgram) (fault : RuleFault) → ReadsTree text raw → program_nesting raw ≤ 100 → IsRuleFault raw fault → IsChecked (Err r)
  only_check r is raw fault tree few shows = laws.refused text (Err r) (answered r is) raw fault tree few shows

  -- a text that is above a limit has no program, or more than 64 lines were asked for
  module _ (asked : Asked) where
    -- a quantity of the tree
    abbrev pub IsOfTree : LimitName → Type 0
    IsOfTree limit.Nesting = Unit {0}
    IsOfTree limit.ArrayLength = Unit {0}
    IsOfTree limit.ObjectCells = Unit {0}
    IsOfTree limit.Locations = ⊥
    IsOfTree limit.Vertices = ⊥
    IsOfTree limit.FactWords = ⊥
    IsOfTree limit.Criteria = ⊥

    of_graph_alone : (p : Program) (name : LimitName) → IsAboveGraphLimit p name → IsOfTree name → ⊥
    of_graph_alone p limit.Nesting above of = elim above [ ]
    of_graph_alone p limit.ArrayLength above of = elim above [ ]
    of_graph_alone p limit.ObjectCells above of = elim above [ ]
    of_graph_alone p limit.Criteria above of = elim above [ ]
    of_graph_alone p limit.Locations (locations many) of = of
    of_graph_alone p limit.Vertices (vertices few is many) of = of
    of_graph_alone p limit.FactWords (words few is small many) of = of

    -- where such a one is above its number there is no program
    pub tree_lacks : (name : LimitName) → IsOfTree name → IsAboveLimit text asked name → (p : Program) → ReadsProgram text p → ⊥
    tree_lacks name of (IsAboveLimit.nesting {raw} tree many) p has =
        let e = ap program_nesting (one_text_tree raw has.raw tree (tree_of_program text has)) in
        let few = has.within.nesting in
        omega (arith, e, few, many)
    tree_lacks name of (IsAboveLimit.length {raw} {p = q} tree few made many) p has =
        let e : q ≡ p = same_program has.raw q p (subst (λ raw. programs.HasProgram raw q) (one_text_tree raw has.raw tree (tree_of_program text has)) made) has.accepted.has in
        let long = ap array_length e in
        let short = has.within.lengths in
        omega (arith, long, short, many)
    tree_lacks name of (IsAboveLimit.cells {raw} {p = q} tree few made short many) p has =
        let e : q ≡ p = same_program has.raw q p (subst (λ raw. programs.HasProgram raw q) (one_text_tree raw has.raw tree (tree_of_program text has)) made) has.accepted.has in
        let wide = ap object_cells e in
        let narrow = has.within.cells in
        omega (arith, wide, narrow, many)
    tree_lacks name of (IsAboveLimit.graph {p = q} built many) p has = of_graph_alone q name (above_graph asked q name many) of
    tree_lacks name of (IsAboveLimit.criteria many) p has = absurd of

    pub above_lacks : (name : LimitName) → IsAboveLimit text asked name → (p : Program) → HasGraph text asked p → length (lines_in asked) ≤ 64 → ⊥
    above_lacks name (IsAboveLimit.nesting tree many) p has few = tree_lacks limit.Nesting tt (IsAboveLimit.nesting tree many) p has.reads
    above_lacks name (IsAboveLimit.length tree low made many) p has few = tree_lacks limit.ArrayLength tt (IsAboveLimit.length tree low made many) p has.reads
    above_lacks name (IsAboveLimit.cells tree low made short many) p has few = tree_lacks limit.ObjectCells tt (IsAboveLimit.cells tree low made short many) p has.reads
    above_lacks name (IsAboveLimit.graph {p = q} built many) p has few =
        has.within name (subst (λ r. IsAboveFor asked r name) (one_program q p built has.reads) many)
    above_lacks name (IsAboveLimit.criteria (q, built, many)) p has few = absurd (omega (arith, many, few))

    above_of : (raw : RawProgram) (name : LimitName) → ReadsTree text raw → program_nesting raw ≤ 100 → IsAbove raw name → IsAboveLimit text asked name
    above_of raw name tree few (IsAbove.lengths made many) = IsAboveLimit.length tree few made many
    above_of raw name tree few (IsAbove.cells made short many) = IsAboveLimit.cells tree few made short many

    -- a limit that the text shows is one that it is above
    pub limit_is : (name : LimitName) → HasRuleFault text (rule.Limit name) → IsAboveLimit text asked name
    limit_is name h = above_of h.raw name h.tree h.nesting h.shows

  -- where the tree is above a limit, what the text shows of its tree is that limit
  pub above_is : (raw : RawProgram) (name : LimitName) → ReadsTree text raw → IsAbove raw name → (fault : RuleFault) → HasRuleFault text fault → fault ≡ rule.Limit name
  above_is raw name tree above (rule.Rule number line) h =
      absurd (rules_hold raw above number line (subst (λ x. IsBroken number line x) (one_text_tree h.raw raw h.tree tree) h.shows))
  above_is raw name tree above (rule.Limit other) h =
      ap rule.Limit (one_quantity raw (subst (λ x. IsAbove x other) (one_text_tree h.raw raw h.tree tree) h.shows) above)
  above_is raw name tree above rule.NoMemory h = absurd h.shows
