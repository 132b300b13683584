-- Stretches of a text: the phrases of each, and the scope after it.
use Rattle.std.specs.Prelude.{ℕ, ◌+◌, List, [], ◌∷◌, ◌++◌, map, Option, Some, None}
use Rattle.c_tree.specs.declared.raw.expr.RawVar.{RawVar}
use Rattle.c_tree.specs.declared.raw.program.RawInit.{RawInit}
use Rattle.c_tree.specs.declared.raw.program.RawParam.{RawParam}
use Rattle.c_tree.specs.declared.raw.program.RawHead.{RawHead}
use Rattle.c_tree.specs.declared.raw.program.RawItem.{RawItem}
use Rattle.c_tree.specs.declared.raw.program.RawProgram.{RawProgram}
use Rattle.c_tree.specs.declared.raw.statement.RawTarget.{RawTarget}
use Rattle.c_tree.specs.declared.raw.statement.RawLabel.{RawLabel}
use Rattle.c_tree.specs.declared.raw.statement.RawArm.{RawArm}
use Rattle.c_tree.specs.declared.raw.statement.RawStatement.{RawStatement}
use Rattle.c_tree.specs.declared.raw.statement.RawStatement.TheOpen.{RawStatement-F}
use Rattle.c_language.specs.Scopes.{Scope, Scoped, opened, closed, numbered, with_variable, with_parameter, with_parameters, with_target, in_order, after_all}
use Rattle.c_language.specs.Phrases.{Stand, InBlock, Part, Phrases, phrase, declaration, target_phrases, joined_at, ArmText, phrases_of_arms, scoped_step, scoped, scoped_of_arm, parameter_phrases, head_phrases, item_phrases, after_item, items_phrases, after_items}

-- a stretch of the text, where it stands
abbrev pub Stretch : Type 0
Stretch = RawProgram → Scoped Phrases

-- one stretch and then another
abbrev pub then_comes : Stretch → Stretch → Stretch
then_comes w v raw = record {
  gives = λ (scope : Scope). (w raw).gives scope ++ (v raw).gives ((w raw).after scope);
  after = λ (scope : Scope). (v raw).after ((w raw).after scope);
}

-- a stretch as a block of its own
abbrev pub enclosed : Stretch → Stretch
enclosed w raw = record {
  gives = λ (scope : Scope). (w raw).gives (opened scope);
  after = λ (scope : Scope). closed scope ((w raw).after (opened scope));
}

-- no phrase, and the same scope
abbrev pub nothing : Stretch
nothing raw = record { gives = λ (scope : Scope). []; after = λ (scope : Scope). scope }

-- a phrase of a statement that is numbered
abbrev pub a_statement : ℕ → Part → Stretch
a_statement line part raw = record { gives = λ (scope : Scope). phrase line scope part ∷ []; after = numbered }

-- a declaration of a variable
abbrev pub of_declaration : ℕ → Stand → RawVar → RawInit → Stretch
of_declaration line stand var i raw = record { gives = λ (scope : Scope). declaration raw line scope stand var i; after = with_variable raw var i }

abbrev pub of_target : ℕ → Stand → RawTarget → Stretch
of_target line stand to raw = record { gives = λ (scope : Scope). target_phrases raw line scope stand to; after = with_target raw to }

abbrev pub standing : Stand → Scoped (Stand → Phrases) → Scoped Phrases
standing stand x = record { gives = λ (scope : Scope). x.gives scope stand; after = x.after }

-- a statement
abbrev pub of_statement : Stand → RawStatement → Stretch
of_statement stand s raw = standing stand (scoped raw s)

-- a statement by its form, with what stands in it
abbrev pub of_form : Stand → (RawProgram → RawStatement-F (Scoped (Stand → Phrases)) (Scoped ArmText)) → Stretch
of_form stand form raw = standing stand (scoped_step raw (form raw))

-- statements one after another
abbrev pub of_statements : Stand → List RawStatement → Stretch
of_statements stand ss raw = record {
  gives = λ (scope : Scope). joined_at stand (in_order (map (scoped raw) ss) scope);
  after = after_all (map (scoped raw) ss);
}

abbrev pub of_block : List RawStatement → Stretch
of_block ss = enclosed (of_statements InBlock ss)

abbrev pub of_arms : List RawArm → Stretch
of_arms arms raw = record {
  gives = λ (scope : Scope). phrases_of_arms (in_order (map (scoped_of_arm raw) arms) scope);
  after = after_all (map (scoped_of_arm raw) arms);
}

-- a part of the head of a for
abbrev pub of_part : Stand → Option RawStatement → Stretch
of_part stand None = nothing
of_part stand (Some s) = of_statement stand s

-- the parameters of a definition
abbrev pub of_parameters : List RawParam → Stretch
of_parameters ps raw = record { gives = head_phrases raw ps; after = with_parameters raw ps }

-- the beginning of the next function that is defined
abbrev pub inside_function : Scope → Scope
inside_function scope = record (opened scope) { owner = Some scope.functions; functions = scope.functions + 1 }

-- a parameter of a definition
abbrev pub of_parameter : RawParam → Stretch
of_parameter p raw = record { gives = parameter_phrases raw p p.name; after = with_parameter raw p }

-- the parameters and the body of a function, which are one block
abbrev pub of_function : RawHead → List RawStatement → Stretch
of_function head body raw = record {
  gives = λ (scope : Scope). (then_comes (of_parameters head.params) (of_statements InBlock body) raw).gives (inside_function scope);
  after = λ (scope : Scope). closed scope ((then_comes (of_parameters head.params) (of_statements InBlock body) raw).after (inside_function scope));
}

abbrev pub of_item : RawItem → Stretch
of_item x raw = record { gives = item_phrases raw x; after = after_item raw x }

abbrev pub of_items : List RawItem → Stretch
of_items xs raw = record { gives = items_phrases raw xs; after = after_items raw xs }

-- the labels of the arms of a switch
abbrev pub labels_in : List RawArm → List RawLabel
labels_in [] = []
labels_in (a ∷ arms) = a.labels ++ labels_in arms
