-- The state of a reader in the code.
use Rattle.subst_yaml_reader.specs.State.{State}
use Rattle.subst_yaml_reader.specs.declared.reader.Reader.{Reader}

-- the `State` that corresponds to a reader in the code
abbrev pub state_of : Reader → State
state_of r = record {
  size = r.size;
  line = r.line;
  fresh = r.is_fresh;
  next = r.next;
  pending = r.pending;
  blocks = r.blocks.items;
  brackets = r.brackets.items;
  events = r.events.items;
}
