-- What is told of a text is true of it, and a text that gives no slice is told so.
use Rattle.std.proofs.Common.{◌≡◌, ◌⊎◌, inl, inr, ℕ, arith, ◌<◌, ◌≤◌, refl, sym, ap, subst, ◌∙◌}
use Rattle.std.specs.Prelude.{Option}
use Rattle.edge_io.specs.Contents.{Told}
use Rattle.edge_io.specs.Count.{Rose}
use Rattle.edge_io.specs.Written.{Gains}
use Rattle.c_tree.specs.declared.limits.LimitName.{LimitName}
use Rattle.c_tree.specs.declared.limits.LimitName.TheVariants as limit
use Rattle.c_tree.specs.declared.raw.program.RawProgram.{RawProgram}
use Rattle.c_language.specs.Words.{Bytes}
use Rattle.c_language.specs.StatementNesting.{program_nesting}
use Rattle.c_lex.specs.declared.fault.LexFault.TheVariants as lex
use Rattle.c_parse.specs.declared.parse_fault.ParseFault.{ParseFault}
use Rattle.c_parse.specs.declared.parse_fault.ParseFault.TheVariants as parse
use Rattle.call_words.specs.Requests.{Asked}
use Rattle.c_types.specs.Checker.{IsAbove}
use Rattle.c_types.specs.declared.rule_fault.RuleFault.{RuleFault}
use Rattle.c_types.specs.declared.rule_fault.RuleFault.TheVariants as rule
use Rattle.c_reader.specs.Reading.{ReadsTree, ReadsProgram}
use Rattle.c_reader.specs.Refusals.{HasParseFault, IsNesting}
use Rattle.c_reader.specs.declared.refusal.ReadRefusal.TheVariants as read
use Rattle.c_tree.specs.declared.program.Program.{Program}
use Rattle.slice_engine.proofs.GraphQuantities.{one_graph_limit}
use Rattle.slicer_top.specs.declared.refusal.Refusal.{Refusal}
use Rattle.slicer_top.specs.declared.refusal.Refusal.TheVariants.{Unreadable, TooLong, NoInput, LongInput, Lex, Parse, Check, NoStart, Graph, TooMany, UndefinedAct, MoreSteps, NoMemory}
use Rattle.slicer_top.specs.declared.status.Status.{Status}
use Rattle.slicer_top.specs.declared.status.Status.TheVariants as status
use Rattle.slicer_top.specs.Limits.{IsAboveLimit, IsBelowLimits, IsDeep}
use Rattle.slicer_top.specs.Lines as lines
use Rattle.slicer_top.specs.Reports.{IsReason, IsShown, IsCause, IsReported, status_of, words_of}
use Rattle.slicer_top.specs.Slices.{AsksTooMany, IsAboveFor, StartsNone}
use Rattle.slicer_top.specs.Statuses.{IsOrYieldsToFault}
use Rattle.slicer_top.specs.Truths.{IsTrueOf}
use Rattle.slicer_top.proofs.ReaderLaws.{IsOfTree, above_graph, grammar_of, one_program, only_memory, only_nesting, only_check, tree_lacks, above_is, limit_is}

-- ---- what is told is true

-- a status whose line speaks of the text
abbrev pub IsOfText : Status → Type 0
IsOfText status.Done = ⊥
IsOfText status.Refused = Unit {0}
IsOfText status.Usage = ⊥
IsOfText status.ReadFault = ⊥
IsOfText status.WriteFault = ⊥
IsOfText status.NoMemory = ⊥
IsOfText status.Undefined = Unit {0}
IsOfText status.Steps = Unit {0}
IsOfText status.Limit = Unit {0}
IsOfText status.TooLong = ⊥

true_limit : (text : Bytes) (asked : Asked) (input : Bytes) (name : LimitName) → IsAboveLimit text asked name → (raw : RawProgram) → IsAbove raw name → IsTrueOf text asked input status.Limit (lines.limit name)
true_limit text asked input name above raw (IsAbove.lengths made many) = IsTrueOf.length above
true_limit text asked input name above raw (IsAbove.cells made short many) = IsTrueOf.cells above

module _ (text input : Bytes) (at : Asked) where
  -- the line of a refusal that the text shows is true of it
  pub is_true : (refusal : Refusal) → IsOfText (status_of refusal) → IsReason text at input refusal → IsTrueOf text at input (status_of refusal) (words_of at refusal)
  is_true Unreadable of reason = absurd of
  is_true TooLong of reason = absurd of
  is_true NoInput of reason = absurd of
  is_true LongInput of reason = absurd of
  is_true (Lex (lex.BadByte l)) of reason = IsTrueOf.bad_byte l reason
  is_true (Lex (lex.BadNumber l)) of reason = IsTrueOf.bad_number l reason
  is_true (Lex (lex.OpenComment l)) of reason = IsTrueOf.open_comment l reason
  is_true (Lex lex.NoMemory) of reason = absurd of
  is_true (Parse (parse.LeftOut token l)) of reason = IsTrueOf.left_out l token reason
  is_true (Parse (parse.Syntax l)) of reason = IsTrueOf.syntax l reason
  is_true (Parse (parse.Nesting l)) of reason =
      IsTrueOf.deep (record { tokens = reason.tokens; are = reason.are; many = reason.shows.0; above = reason.shows.1 })
  is_true (Parse parse.NoMemory) of reason = absurd of
  is_true (Check (rule.Rule number l)) of reason = IsTrueOf.rule number l reason
  is_true (Check (rule.Limit name)) of reason = true_limit text at input name (limit_is text at name reason) reason.raw reason.shows
  is_true (Check rule.NoMemory) of reason = absurd of
  is_true (NoStart line) of reason = IsTrueOf.no_start line reason
  is_true (Graph name) of (p, built, above) = IsTrueOf.graph name built above
  is_true TooMany of reason = IsTrueOf.criteria (IsAboveLimit.criteria reason)
  is_true (UndefinedAct line statement) of (p, starts, undefined) = IsTrueOf.undefined line statement starts undefined
  is_true MoreSteps of (p, starts, more) = IsTrueOf.steps starts more
  is_true NoMemory of reason = absurd of

module _ (told : Told) (at : Asked) (f f' l l' : ℕ) where
  -- what speaks of the text has its cause in the text
  pub shown : (refusal : Refusal) → IsOfText (status_of refusal) → IsCause told at f f' l l' refusal → IsShown told at refusal
  shown Unreadable of cause = absurd of
  shown TooLong of cause = absurd of
  shown NoInput of cause = absurd of
  shown LongInput of cause = absurd of
  shown (Lex fault) of cause = cause
  shown (Parse fault) of cause = cause
  shown (Check fault) of cause = cause
  shown (NoStart line) of cause = cause
  shown (Graph name) of cause = cause
  shown TooMany of cause = cause
  shown (UndefinedAct line statement) of cause = cause
  shown MoreSteps of cause = cause
  shown NoMemory of cause = absurd of

-- ---- a text that gives no slice

deep_fault : (text : Bytes) (at : Asked) (line : ℕ) → IsBelowLimits text at → HasParseFault text (parse.Nesting line) → IsDeep text
deep_fault text at line below h = record {
  tokens = h.tokens;
  are = h.are;
  many = h.shows.0;
  no_tree = λ raw tree. below limit.Nesting (IsAboveLimit.nesting tree (h.shows.1 raw (grammar_of text h.tokens raw h.are tree)));
}

-- the status of a text of which no quantity is above its number: where no statement starts on one of the lines, it is refused, or memory was wanting, or it is deep
abbrev RefusedOrDeep : Bytes → Asked → Refusal → Type 0
RefusedOrDeep text at r =
    (status_of r ≡ status.Refused) ⊎ (status_of r ≡ status.NoMemory) ⊎ ((status_of r ≡ status.Limit) × IsDeep text × (words_of at r ≡ lines.limit limit.Nesting))

refused_or_deep : (text input : Bytes) (at : Asked) (refusal : Refusal) → IsBelowLimits text at → StartsNone text at → IsReason text at input refusal → RefusedOrDeep text at refusal
refused_or_deep text input at Unreadable below none reason = absurd reason
refused_or_deep text input at TooLong below none reason = absurd reason
refused_or_deep text input at NoInput below none reason = absurd reason
refused_or_deep text input at LongInput below none reason = absurd reason
refused_or_deep text input at (Lex (lex.BadByte l)) below none reason = inl refl
refused_or_deep text input at (Lex (lex.BadNumber l)) below none reason = inl refl
refused_or_deep text input at (Lex (lex.OpenComment l)) below none reason = inl refl
refused_or_deep text input at (Lex lex.NoMemory) below none reason = inr (inl refl)
refused_or_deep text input at (Parse (parse.LeftOut token l)) below none reason = inl refl
refused_or_deep text input at (Parse (parse.Syntax l)) below none reason = inl refl
refused_or_deep text input at (Parse (parse.Nesting l)) below none reason = inr (inr (refl, deep_fault text at l below reason, refl))
refused_or_deep text input at (Parse parse.NoMemory) below none reason = inr (inl refl)
refused_or_deep text input at (Check (rule.Rule number l)) below none reason = inl refl
refused_or_deep text input at (Check (rule.Limit name)) below none reason = absurd (below name (limit_is text at name reason))
refused_or_deep text input at (Check rule.NoMemory) below none reason = inr (inl refl)
refused_or_deep text input at (NoStart line) below none reason = inl refl
refused_or_deep text input at (Graph name) below none (p, built, above) = absurd (below name (IsAboveLimit.graph built above))
refused_or_deep text input at TooMany below none reason = absurd (below limit.Criteria (IsAboveLimit.criteria reason))
refused_or_deep text input at (UndefinedAct line statement) below none (p, starts, undefined) = absurd (none p starts.built starts.starts)
refused_or_deep text input at MoreSteps below none (p, starts, more) = absurd (none p starts.built starts.starts)
refused_or_deep text input at NoMemory below none reason = inr (inl refl)

-- the status of a text that is above a limit: the limit is told, or memory was wanting
abbrev LimitOrMemory : Asked → LimitName → Refusal → Type 0
LimitOrMemory at name refusal = ((status_of refusal ≡ status.Limit) × (words_of at refusal ≡ lines.limit name)) ⊎ (status_of refusal ≡ status.NoMemory)

module _ (text input : Bytes) (at : Asked) where
  told_nesting : (fault : ParseFault) → IsNesting fault → LimitOrMemory at limit.Nesting (Parse fault)
  told_nesting (parse.LeftOut token l) is = absurd is
  told_nesting (parse.Syntax l) is = absurd is
  told_nesting (parse.Nesting l) is = inl (refl, refl)
  told_nesting parse.NoMemory is = absurd is

  nests : (refusal : Refusal) → IsReason text at input refusal → (raw : RawProgram) → ReadsTree text raw → 100 < program_nesting raw → LimitOrMemory at limit.Nesting refusal
  nests Unreadable reason raw tree many = absurd reason
  nests TooLong reason raw tree many = absurd reason
  nests NoInput reason raw tree many = absurd reason
  nests LongInput reason raw tree many = absurd reason
  nests (Lex fault) reason raw tree many = absurd (only_nesting text (read.Lex fault) reason raw tree many)
  nests (Parse fault) reason raw tree many = told_nesting fault (only_nesting text (read.Parse fault) reason raw tree many)
  nests (Check fault) reason raw tree many = absurd (only_nesting text (read.Check fault) reason raw tree many)
  nests (NoStart line) (p, built, none) raw tree many = absurd (tree_lacks text at limit.Nesting tt (IsAboveLimit.nesting tree many) p built.reads)
  nests (Graph name) (p, has, above) raw tree many = absurd (tree_lacks text at limit.Nesting tt (IsAboveLimit.nesting tree many) p has)
  nests TooMany (p, built, more) raw tree many = absurd (tree_lacks text at limit.Nesting tt (IsAboveLimit.nesting tree many) p built.reads)
  nests (UndefinedAct line statement) (p, starts, undefined) raw tree many = absurd (tree_lacks text at limit.Nesting tt (IsAboveLimit.nesting tree many) p starts.built.reads)
  nests MoreSteps (p, starts, more) raw tree many = absurd (tree_lacks text at limit.Nesting tt (IsAboveLimit.nesting tree many) p starts.built.reads)
  nests NoMemory reason raw tree many = inr refl

  told_limit : (name : LimitName) (fault : RuleFault) → fault ≡ rule.Limit name → LimitOrMemory at name (Check fault)
  told_limit name fault is = subst (λ x. LimitOrMemory at name (Check x)) (sym is) (inl (refl, refl))

  exceeds : (refusal : Refusal) → IsReason text at input refusal → (raw : RawProgram) (name : LimitName) → ReadsTree text raw → program_nesting raw ≤ 100 → IsAbove raw name → IsOfTree text at name → IsAboveLimit text at name → LimitOrMemory at name refusal
  exceeds Unreadable reason raw name tree few above of exceeded = absurd reason
  exceeds TooLong reason raw name tree few above of exceeded = absurd reason
  exceeds NoInput reason raw name tree few above of exceeded = absurd reason
  exceeds LongInput reason raw name tree few above of exceeded = absurd reason
  exceeds (Lex fault) reason raw name tree few above of exceeded = absurd (only_check text (read.Lex fault) reason raw (rule.Limit name) tree few above)
  exceeds (Parse fault) reason raw name tree few above of exceeded = absurd (only_check text (read.Parse fault) reason raw (rule.Limit name) tree few above)
  exceeds (Check fault) reason raw name tree few above of exceeded = told_limit name fault (above_is text raw name tree above fault reason)
  exceeds (NoStart line) (p, built, none) raw name tree few above of exceeded = absurd (tree_lacks text at name of exceeded p built.reads)
  exceeds (Graph other) (p, has, many) raw name tree few above of exceeded = absurd (tree_lacks text at name of exceeded p has)
  exceeds TooMany (p, built, more) raw name tree few above of exceeded = absurd (tree_lacks text at name of exceeded p built.reads)
  exceeds (UndefinedAct line statement) (p, starts, undefined) raw name tree few above of exceeded = absurd (tree_lacks text at name of exceeded p starts.built.reads)
  exceeds MoreSteps (p, starts, more) raw name tree few above of exceeded = absurd (tree_lacks text at name of exceeded p starts.built.reads)
  exceeds NoMemory reason raw name tree few above of exceeded = inr refl

  -- more than 64 lines of a text with a program and a graph within the limits
  asks_more : (refusal : Refusal) → IsReason text at input refusal → AsksTooMany text at → LimitOrMemory at limit.Criteria refusal
  asks_more Unreadable reason many = absurd reason
  asks_more TooLong reason many = absurd reason
  asks_more NoInput reason many = absurd reason
  asks_more LongInput reason many = absurd reason
  asks_more (Lex fault) reason (p, built, more) = absurd (only_memory text (read.Lex fault) reason p built.reads)
  asks_more (Parse fault) reason (p, built, more) = absurd (only_memory text (read.Parse fault) reason p built.reads)
  asks_more (Check fault) reason (p, built, more) = absurd (only_memory text (read.Check fault) reason p built.reads)
  asks_more (NoStart line) (q, has, lacks) (p, built, more) = let few = lacks.few in absurd (omega (arith, more, few))
  asks_more (Graph name) (q, has, above) (p, built, more) = absurd (built.within name (subst (λ r. IsAboveFor at r name) (one_program text q p has built.reads) above))
  asks_more TooMany reason many = inl (refl, refl)
  asks_more (UndefinedAct line statement) (q, starts, undefined) (p, built, more) = let few = starts.few in absurd (omega (arith, more, few))
  asks_more MoreSteps (q, starts, further) (p, built, more) = let few = starts.few in absurd (omega (arith, more, few))
  asks_more NoMemory reason many = inr refl

  told_quantity : (p : Program) (name other : LimitName) → IsAboveFor at p name → IsAboveFor at p other → LimitOrMemory at name (Graph other)
  told_quantity p name other above also = inl (refl, ap lines.limit (one_graph_limit p other name (above_graph at p other also) (above_graph at p name above)))

  -- a graph with more than there may be
  has_more : (refusal : Refusal) → IsReason text at input refusal → (p : Program) (name : LimitName) → ReadsProgram text p → IsAboveFor at p name → LimitOrMemory at name refusal
  has_more Unreadable reason p name built above = absurd reason
  has_more TooLong reason p name built above = absurd reason
  has_more NoInput reason p name built above = absurd reason
  has_more LongInput reason p name built above = absurd reason
  has_more (Lex fault) reason p name built above = absurd (only_memory text (read.Lex fault) reason p built)
  has_more (Parse fault) reason p name built above = absurd (only_memory text (read.Parse fault) reason p built)
  has_more (Check fault) reason p name built above = absurd (only_memory text (read.Check fault) reason p built)
  has_more (NoStart line) (q, has, lacks) p name built above = absurd (has.within name (subst (λ r. IsAboveFor at r name) (one_program text p q built has.reads) above))
  has_more (Graph other) (q, has, also) p name built above =
      told_quantity p name other above (subst (λ r. IsAboveFor at r other) (one_program text q p has built) also)
  has_more TooMany (q, has, more) p name built above = absurd (has.within name (subst (λ r. IsAboveFor at r name) (one_program text p q built has.reads) above))
  has_more (UndefinedAct line statement) (q, starts, undefined) p name built above = absurd (starts.built.within name (subst (λ r. IsAboveFor at r name) (one_program text p q built starts.built.reads) above))
  has_more MoreSteps (q, starts, more) p name built above = absurd (starts.built.within name (subst (λ r. IsAboveFor at r name) (one_program text p q built starts.built.reads) above))
  has_more NoMemory reason p name built above = inr refl

  limit_or_memory : (refusal : Refusal) (name : LimitName) → IsAboveLimit text at name → IsReason text at input refusal → LimitOrMemory at name refusal
  limit_or_memory refusal name (IsAboveLimit.nesting {raw} tree many) reason = nests refusal reason raw tree many
  limit_or_memory refusal name (IsAboveLimit.length {raw} tree few made many) reason =
      exceeds refusal reason raw limit.ArrayLength tree few (IsAbove.lengths made many) tt (IsAboveLimit.length tree few made many)
  limit_or_memory refusal name (IsAboveLimit.cells {raw} tree few made short many) reason =
      exceeds refusal reason raw limit.ObjectCells tree few (IsAbove.cells made short many) tt (IsAboveLimit.cells tree few made short many)
  limit_or_memory refusal name (IsAboveLimit.graph {p} built above) reason = has_more refusal reason p name built above
  limit_or_memory refusal name (IsAboveLimit.criteria many) reason = asks_more refusal reason many

-- ---- how such a text ends

module _ (at : Asked) (e e' f f' : ℕ) (before after : Option Bytes) where
  -- what is told is the status of the refusal, or one to which each answer yields
  abbrev pub Ends : Refusal → Status → Type 0
  Ends refusal result = ((result ≡ status_of refusal) × Gains before after (words_of at refusal)) ⊎ (result ≡ status.NoMemory) ⊎ ((result ≡ status.WriteFault) × Rose e e')

  pub ends : (refusal : Refusal) (result : Status) → IsReported e e' before after at refusal result → Ends refusal result
  ends refusal result (inl (inl put)) = inl put
  ends refusal result (inl (inr cut)) = inr (inr (cut.0, cut.1.0))
  ends refusal result (inr (inl put)) = inr (inl put.0)
  ends refusal result (inr (inr cut)) = inr (inr (cut.0, cut.1.0))

  yields : (wanted result : Status) → (result ≡ status.NoMemory) ⊎ ((result ≡ status.WriteFault) × Rose e e') → IsOrYieldsToFault e e' f f' result wanted
  yields wanted result (inl memory) = inl (inr (inl memory))
  yields wanted result (inr cut) = inl (inr (inr cut))

  unreadable : (wanted result : Status) (refusal : Refusal) → status_of refusal ≡ status.ReadFault → Rose f f' → Ends refusal result → IsOrYieldsToFault e e' f f' result wanted
  unreadable wanted result refusal is rose (inl put) = inr (put.0 ∙ is, rose)
  unreadable wanted result refusal is rose (inr other) = yields wanted result other

  -- the files couldn't be read for a fault, or this holds
  abbrev pub FaultOr : Type 0 → Refusal → Type 0
  FaultOr P refusal = ((status_of refusal ≡ status.ReadFault) × Rose f f') ⊎ P

  -- the refusal has this status, or memory was wanting
  pub ends_with : (wanted result : Status) (refusal : Refusal) → FaultOr ((status_of refusal ≡ wanted) ⊎ (status_of refusal ≡ status.NoMemory)) refusal → IsReported e e' before after at refusal result → IsOrYieldsToFault e e' f f' result wanted
  ends_with wanted result refusal (inl fault) told = unreadable wanted result refusal fault.0 fault.1 (ends refusal result told)
  ends_with wanted result refusal (inr is) told = elim (ends refusal result told) [
    | inl put ↦ elim is [
      | inl same ↦ inl (inl (put.0 ∙ same))
      | inr memory ↦ inl (inr (inl (put.0 ∙ memory)))
    ]
    | inr other ↦ yields wanted result other
  ]

  -- a text of which no quantity is above its number, and on whose line no statement starts
  pub is_refused : (text input : Bytes) (refusal : Refusal) (result : Status) → IsBelowLimits text at → StartsNone text at → FaultOr (IsReason text at input refusal) refusal → IsReported e e' before after at refusal result → IsOrYieldsToFault e e' f f' result status.Refused ⊎ ((result ≡ status.Limit) × IsDeep text × Gains before after (lines.limit limit.Nesting))
  is_refused text input refusal result below none (inl fault) told = inl (unreadable status.Refused result refusal fault.0 fault.1 (ends refusal result told))
  is_refused text input refusal result below none (inr reason) told = elim (ends refusal result told) [
    | inl put ↦ elim (refused_or_deep text input at refusal below none reason) [
      | inl refused ↦ inl (inl (inl (put.0 ∙ refused)))
      | inr (inl memory) ↦ inl (inl (inr (inl (put.0 ∙ memory))))
      | inr (inr deep) ↦ inr (put.0 ∙ deep.0, deep.1, subst (Gains before after) deep.2 put.1)
    ]
    | inr other ↦ inl (yields status.Refused result other)
  ]

  -- a text that is above a limit
  pub is_above : (text input : Bytes) (name : LimitName) (refusal : Refusal) (result : Status) → IsAboveLimit text at name → FaultOr (IsReason text at input refusal) refusal → IsReported e e' before after at refusal result → IsOrYieldsToFault e e' f f' result status.Limit
  is_above text input name refusal result above (inl fault) told = unreadable status.Limit result refusal fault.0 fault.1 (ends refusal result told)
  is_above text input name refusal result above (inr reason) told = elim (ends refusal result told) [
    | inl put ↦ elim (limit_or_memory text input at refusal name above reason) [
      | inl told ↦ inl (inl (put.0 ∙ told.0))
      | inr memory ↦ inl (inr (inl (put.0 ∙ memory)))
    ]
    | inr other ↦ yields status.Limit result other
  ]

  no_limit : (s : Status) {A : Type 0} → s ≡ status.Limit → s ≡ status.NoMemory → A
  no_limit s is memory = absurd (let e : status.Limit ≡ status.NoMemory = sym is ∙ memory in cc)

  pub names_it : (text input : Bytes) (name : LimitName) (refusal : Refusal) (result : Status) → IsAboveLimit text at name → FaultOr (IsReason text at input refusal) refusal → IsReported e e' before after at refusal result → result ≡ status.Limit → Gains before after (lines.limit name)
  names_it text input name refusal result above (inl fault) told is = elim (ends refusal result told) [
    | inl put ↦ absurd (let e : status.Limit ≡ status.ReadFault = sym is ∙ put.0 ∙ fault.0 in cc)
    | inr (inl memory) ↦ no_limit result is memory
    | inr (inr cut) ↦ absurd (let e : status.Limit ≡ status.WriteFault = sym is ∙ cut.0 in cc)
  ]
  names_it text input name refusal result above (inr reason) told is = elim (ends refusal result told) [
    | inl put ↦ elim (limit_or_memory text input at refusal name above reason) [
      | inl told ↦ subst (Gains before after) told.1 put.1
      | inr memory ↦ no_limit result is (put.0 ∙ memory)
    ]
    | inr (inl memory) ↦ no_limit result is memory
    | inr (inr cut) ↦ absurd (let e : status.Limit ≡ status.WriteFault = sym is ∙ cut.0 in cc)
  ]
