use Rattle.program_graph.proofs.Parts.{few_functions}
use Rattle.program_graph.proofs.find.Goals as goal

pub build-requires-clause-few_functions : goal.build-requires-clause-few_functions
build-requires-clause-few_functions c = few_functions c.args.p.now c.args.s c.requires

pub returns : goal.returns
returns c = record {
  analysis = c.requires.analysis;
  is_analysis = c.requires.is_analysis;
  is_graph = c.in_ok-graph.ensures c.requires.analysis c.requires.is_skeleton (c.in_ok-parts.ensures c.requires.analysis c.requires.is_skeleton);
}
