-- The variables that are made along a text, part by part.
use Rattle.std.proofs.Common.{List, [], ◌∷◌, ◌++◌, Option, append_assoc, append-nil, sym, subst}
use Rattle.c_tree.specs.declared.program.Var.{Var}
use Rattle.c_tree.specs.declared.raw.program.RawProgram.{RawProgram}
use Rattle.c_language.specs.Phrases.{Phrases}
use Rattle.c_types_program.specs.declared.variables.Variables.{Variables}
use Rattle.c_types_trees.specs.FitPhrases.{AreFit}
use Rattle.c_types_program.specs.Variables.{AreMade, Grow}

pub grow_none : (a : Variables) → Grow a a []
grow_none a found h = subst (AreMade a) (sym (append-nil found)) h

pub grow_then : {a b c : Variables} {xs ys : List (Option Var)} → Grow a b xs → Grow b c ys → Grow a c (xs ++ ys)
grow_then {c} {xs} {ys} g h found made = subst (AreMade c) (append_assoc found xs ys) (h (found ++ xs) (g found made))

pub fit_both : (raw : RawProgram) (ps qs : Phrases) → AreFit raw (ps ++ qs) → AreFit raw ps × AreFit raw qs
fit_both raw [] qs h = (tt, h)
fit_both raw (p ∷ ps) qs h = let rest = fit_both raw ps qs h.1 in ((h.0, rest.0), rest.1)
