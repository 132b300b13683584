-- What a fault of the shelf, of the reader and of the graph is to what is asked.
use Rattle.edge_io.specs.declared.shelf.FetchFault.{FetchFault}
use Rattle.edge_io.specs.declared.shelf.FetchFault.TheVariants as fetch
use Rattle.c_reader.specs.declared.refusal.ReadRefusal.{ReadRefusal}
use Rattle.c_reader.specs.declared.refusal.ReadRefusal.TheVariants as reading
use Rattle.dep_model.specs.declared.graph_fault.GraphFault.{GraphFault}
use Rattle.dep_model.specs.declared.graph_fault.GraphFault.TheVariants as graph
use Rattle.slicer_top.specs.declared.refusal.Refusal.{Refusal}
use Rattle.slicer_top.specs.declared.refusal.Refusal.TheVariants.{Unreadable, TooLong, NoInput, LongInput, Lex, Parse, Check, Graph, NoMemory}

-- of the file with the program, and of that with the input
abbrev pub of_fetch : FetchFault → Refusal
of_fetch fetch.Failed = Unreadable
of_fetch fetch.TooLong = TooLong
of_fetch fetch.NoMemory = NoMemory

abbrev pub of_input : FetchFault → Refusal
of_input fetch.Failed = NoInput
of_input fetch.TooLong = LongInput
of_input fetch.NoMemory = NoMemory

abbrev pub of_reading : ReadRefusal → Refusal
of_reading (reading.Lex fault) = Lex fault
of_reading (reading.Parse fault) = Parse fault
of_reading (reading.Check fault) = Check fault
of_reading reading.NoMemory = NoMemory

abbrev pub of_graph : GraphFault → Refusal
of_graph (graph.Limit name) = Graph name
of_graph graph.NoMemory = NoMemory
