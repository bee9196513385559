use Rattle.pack_input.proofs.Inputs.{exact, found, only, refused}
use Rattle.pack_input.proofs.reading.read.Goals as goal

pub returns : goal.returns
returns c = record {
  found = found c.args.bytes.now c.read_input.result c.read_input.ensures;
  fault = refused c.args.bytes.now c.read_input.result c.read_input.ensures;
  only = only c.args.bytes.now c.read_input.result c.read_input.ensures;
  exact = exact c.args.bytes.now c.read_input.result c.read_input.ensures;
}
