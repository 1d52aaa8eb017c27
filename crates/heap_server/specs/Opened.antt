-- The names of an opening.
use Rattle.heap_model.specs.Settings.{settings_by}
use Rattle.heap_server.specs.Names.{Names}
use Rattle.heap_server.specs.declared.naming.Opening.{Opening}

-- the names of the server that is made of it
abbrev pub names_of : Opening → Names
names_of o = record {
  settings = settings_by o.config;
  calls = o.calls.name;
  begun = o.begun.name;
  ended = o.ended.name;
  quanta = o.quanta.name;
  units = o.units.name;
  book = o.place.seen.book;
}
