-- The parts of an open reader.
use Rattle.plain_file.specs.declared.parts.ReaderParts.{ReaderParts}
use Rattle.index_reader.specs.declared.opened.OpenReader.{OpenReader}

abbrev pub parts_of : OpenReader → ReaderParts
parts_of r = record { room = r.room; pieces = r.pieces; size = r.size; covers = r.covers; truncs = r.truncs; hosts = r.hosts }

abbrev pub reader_from : ReaderParts → OpenReader
reader_from p = record { room = p.room; hosts = p.hosts; pieces = p.pieces; size = p.size; covers = p.covers; truncs = p.truncs }
