pub mod ShownJson
