-- The starred cases of document 01, "Edges"; of these the statement is to be read. First what a reader must believe.
pub mod Starred
